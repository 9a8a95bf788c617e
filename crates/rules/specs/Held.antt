-- Trees held in three arrays: the starts, the bounds of each tree's edges, and all edges one tree after the other.
-- Assumes nothing.
use Rattle.std.specs.Prelude.{ℕ, List, map, get_or}
use Rattle.lists.specs.Segments.{segment}
use Rattle.lists.specs.Sort.{rise}
use Rattle.rules.specs.Cover.{Tree}

-- Tree i: its start, and its edges as segment i, in the order in which they stand there.
unfoldable pub tree_at : List ℕ → List ℕ → List ℕ → ℕ → Tree
tree_at starts bounds edges i = record { start = get_or starts i 0; edges = segment bounds edges i }

-- The trees of these numbers, in that order.
unfoldable pub trees_at : List ℕ → List ℕ → List ℕ → List ℕ → List Tree
trees_at starts bounds edges chosen = map (tree_at starts bounds edges) chosen

-- The tree with its edges by rising number.
unfoldable pub risen : Tree → Tree
risen t = record { start = t.start; edges = rise t.edges }
