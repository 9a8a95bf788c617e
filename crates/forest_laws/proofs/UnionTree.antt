-- The tree made of the union of edges that hang together at its root: it is a tree, weighs no more than the union, and covers
-- every vertex that the union links to the root.
-- Assumes nothing.
use Prim.Native.Nat.{ℕ, ◌≤◌, ◌<◌}
use mathlib.Core.Path.{◌≡◌, refl}
use mathlib.Core.List.Memᴰ
use mathlib.Core.List.{List}
use Rattle.lists.specs.Member.{◌∈◌}
use Rattle.graph.specs.Graph.{Graph, one_end}
use Rattle.rules.specs.Walk.{Walk, stay, step, Linked, total_weight}
use Rattle.rules.specs.Cover.{Tree, IsTree, Covers, at_start, tree_weight}
use Rattle.rules.specs.RootedTrial.{union_tree}
use Rattle.rules.proofs.Joined.{joins_covers}
use Rattle.forest_laws.proofs.Thinning.{Spans, thinned_spans}

-- a tree covers what its edges link to its start
pub linked_covered : {g : Graph} (t : Tree) {v : ℕ} → Linked g t.edges t.start v → Covers g t v
linked_covered {g} t l = go l.leads l.along (at_start refl)
  where
    on : {u v : ℕ} → u ≡ v → Covers g t u → Covers g t v
    on q c = rw q at c

    go : {p : List ℕ} {u v : ℕ} → Walk g p u v → ((e : ℕ) → e ∈ p → e ∈ t.edges) → Covers g t u → Covers g t v
    go (stay q) sub c = on q c
    go (step {e = e} j w) sub c = go w (λ f m. sub f (Memᴰ.tail m)) (joins_covers (sub e (Memᴰ.head refl)) j)

module _ (g : Graph) (root : ℕ) (union : List ℕ) where
  -- the tree's edges span the union
  union_spans : Spans g union (union_tree g root union).edges
  unfolding union_tree
  union_spans = thinned_spans g union

  -- it is a tree, where the union's edges are linked to the root
  pub union_is_tree : root < g.vertices → ((e : ℕ) → e ∈ union → Linked g union root (one_end g e)) → IsTree g (union_tree g root union)
  unfolding union_tree
  union_is_tree inside hangs = record {
    start_inside = inside;
    edges_inside = union_spans.inside;
    rising = union_spans.rising;
    joined = λ e m. union_spans.links (hangs e (union_spans.among e m));
    no_loop = union_spans.no_loop;
  }

  -- it weighs no more than the union
  pub union_weight : tree_weight g (union_tree g root union) ≤ total_weight g union
  unfolding union_tree tree_weight
  union_weight = union_spans.weight

  -- it covers whatever the union links to the root
  pub union_covers : {v : ℕ} → Linked g union root v → Covers g (union_tree g root union) v
  unfolding union_tree
  union_covers l = linked_covered (union_tree g root union) (union_spans.links l)
