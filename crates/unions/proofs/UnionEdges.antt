-- Where edges are marked as they are in a union, those kept of the marked edges are the edges of the union's tree (document 01, step 6).
-- Assumes nothing.
use Prim.Native.Nat.{ℕ, ◌<◌}
use mathlib.Core.Path.{◌≡◌, ap, ◌∙◌}
use mathlib.Core.Bool.{cond}
use mathlib.Core.List.{List}
use lib.ListN.{get_or}
use lib.Dec.{eqb}
use Rattle.lists.specs.Lists.{filter, member}
use Rattle.lists.specs.Sort.{rise}
use Rattle.lists.proofs.OneOrZero.{bit_says}
use Rattle.lists.proofs.SameTests.{filter_same}
use Rattle.graph.specs.Graph.{Graph, edge_count}
use Rattle.matching.specs.Assignment.{marked}
use Rattle.rules.specs.Order.{ordered}
use Rattle.rules.specs.Labels.{apart}
use Rattle.rules.specs.Forest.{keep}
use Rattle.rules.specs.RootedTrial.{union_tree}
use Rattle.forest_laws.proofs.Ordering.{of_ordered}

-- The marked edges are those of the union,
pub marked_union : (g : Graph) (union marks : List ℕ) → ((e : ℕ) → e < edge_count g → get_or marks e 0 ≡ cond (member e union) 1 0)
    → filter (marked marks) (ordered g) ≡ filter (λ e. member e union) (ordered g)
marked_union g union marks q =
    filter_same (marked marks) (λ e. member e union) (ordered g) (λ e m. ap (λ x. eqb x 1) (q e (of_ordered g m)) ∙ bit_says (member e union))

-- and so are those kept.
pub union_edges : (g : Graph) (root : ℕ) (union marks : List ℕ) → ((e : ℕ) → e < edge_count g → get_or marks e 0 ≡ cond (member e union) 1 0)
    → rise (keep g apart (filter (marked marks) (ordered g))) ≡ (union_tree g root union).edges
unfolding union_tree
union_edges g root union marks q = ap (λ l. rise (keep g apart l)) (marked_union g union marks q)

-- A union's tree depends only on which edges are in the union.
pub union_same : (g : Graph) (root : ℕ) (xs ys : List ℕ) → ((e : ℕ) → member e xs ≡ member e ys) → union_tree g root xs ≡ union_tree g root ys
unfolding union_tree
union_same g root xs ys q =
    ap (λ l. record { start = root; edges = rise (keep g apart l) })
    (filter_same (λ e. member e xs) (λ e. member e ys) (ordered g) (λ e m. q e))
