-- The vertices that are listed for a tree are those that it covers.
-- Assumes nothing.
use Prim.Native.Nat.{ℕ}
use mathlib.Core.List.Memᴰ
use mathlib.Core.List.{List, [], ◌∷◌}
use Rattle.lists.specs.Member.{◌∈◌}
use Rattle.lists.proofs.FlatMap.{in_flat_map, of_flat_map}
use Rattle.graph.specs.Graph.{Graph, one_end, other_end}
use Rattle.rules.specs.Cover.{Tree, Covers, at_start, at_one_end, at_other_end}
use Rattle.rules.specs.Distance.{tree_vertices}

module _ (g : Graph) where
  -- the two ends of an edge
  ends : ℕ → List ℕ
  ends e = one_end g e ∷ other_end g e ∷ []

  module _ (t : Tree) where
    -- what the tree covers is listed
    pub covered_stands : {v : ℕ} → Covers g t v → v ∈ tree_vertices g t
    unfolding tree_vertices ends
    covered_stands (at_start q) = Memᴰ.head q
    covered_stands (at_one_end e m q) = Memᴰ.tail (in_flat_map ends m (Memᴰ.head q))
    covered_stands (at_other_end e m q) = Memᴰ.tail (in_flat_map ends m (Memᴰ.tail (Memᴰ.head q)))

    -- what is listed is covered
    pub stands_covered : {v : ℕ} → v ∈ tree_vertices g t → Covers g t v
    unfolding tree_vertices ends
    stands_covered (Memᴰ.head q) = at_start q
    stands_covered {v} (Memᴰ.tail m) = let (e, i, n) = of_flat_map ends t.edges m in at_end i n
      where
        at_end : {e : ℕ} → e ∈ t.edges → v ∈ (one_end g e ∷ other_end g e ∷ []) → Covers g t v
        at_end {e} i (Memᴰ.head q) = at_one_end e i q
        at_end {e} i (Memᴰ.tail n) = at_other_end e i (Memᴰ.eq_of_singleton n)
