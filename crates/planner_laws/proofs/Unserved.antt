-- Too low for a leaf: where its edge weighs more than the limit and it may be no start, every cover has a tree above the limit. For the tree that
-- covers the leaf does not start there, so it has the edge.
-- Assumes nothing.
use Prim.Native.Nat.{ℕ, ◌<◌}
use mathlib.Core.Path.{◌≡◌}
use mathlib.Core.List.{List}
use mathlib.Core.Logic.{◌⊎◌, inl, inr}
use native.Mathlib.Omega.{arith}
use Rattle.lists.specs.Member.{◌∈◌}
use Rattle.lists.proofs.Bounds.{sum_each}
use Rattle.lists.proofs.Largest.{in_largest}
use Rattle.graph.specs.Graph.{Graph, weight_of}
use Rattle.rules.specs.Walk.{total_weight}
use Rattle.rules.specs.Cover.{Tree, tree_weight, heaviest, AllCovered}
use Rattle.rules.proofs.Leaf.{Leaf, covers_leaf}

module _ {g : Graph} {e s c : ℕ} (leaf : Leaf g e s c) (inside : c < g.vertices) {trees : List Tree} (cover : AllCovered g trees)
    (no_start : (t : Tree) → t ∈ trees → t.start ≡ c → ⊥) where
  -- Trees that cover every vertex, none of which starts at the leaf, have its edge,
  pub leaf_edge_used : (t : Tree) × (t ∈ trees) × (e ∈ t.edges)
  leaf_edge_used =
      let (t, m, covers) = cover.covered c inside in
      (t, m, go m (covers_leaf leaf (cover.are_trees t m).edges_inside covers))
    where
      go : {t : Tree} → t ∈ trees → (t.start ≡ c) ⊎ (e ∈ t.edges) → e ∈ t.edges
      go {t} m (inl q) = absurd (no_start t m q)
      go m (inr n) = n

  -- so that the heaviest weighs no less than the edge.
  pub unserved_too_low : {limit : ℕ} → limit < weight_of g e → limit < heaviest g trees
  unfolding heaviest tree_weight total_weight
  unserved_too_low low = let (t, m, n) = leaf_edge_used in omega (arith, sum_each (weight_of g) n, in_largest (tree_weight g) m)
