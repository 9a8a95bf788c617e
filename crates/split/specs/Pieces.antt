-- What the rules make of a forest's trees (document 01, steps 3 and 4), as one list of pieces: for each root the parts of its tree in the
-- order in which they are split off, then what is left at the root.
-- Assumes nothing.
use Rattle.std.specs.Prelude.{ℕ, ◌+◌, List, [], ◌∷◌, ◌++◌, map, length}
use Rattle.lists.specs.Count.{from}
use Rattle.lists.specs.Lists.{flat}
use Rattle.graph.specs.Graph.{Graph}
use Rattle.rules.specs.Cover.{Tree}
use Rattle.rules.specs.Grow.{Rooted, grow}
use Rattle.rules.specs.Split.{Pieces, part_at, split}

-- What is left of a tree, as a piece that starts at the root.
unfoldable pub left_of : Rooted → Pieces → Tree
left_of t p = part_at t.root p.left

-- The parts of a tree, and what is left of it as one more piece, also where it has no edges.
unfoldable pub with_left : Rooted → Pieces → List Tree
with_left t p = p.parts ++ (left_of t p ∷ [])

-- The pieces of all trees that are grown along the edges from the roots.
unfoldable pub pieces_of : Graph → ℕ → List ℕ → List ℕ → List Tree
pieces_of g H edges roots = flat (map (λ (t : Rooted). with_left t (split g H t)) (grow g edges roots))

-- The numbers of the leftovers among the pieces, where the first tree's first piece has the given number,
unfoldable pub left_places : ℕ → List Pieces → List ℕ
left_places first [] = []
left_places first (p ∷ ps) = (first + length p.parts) ∷ left_places (first + length p.parts + 1) ps

-- and the numbers of the parts.
unfoldable pub part_places : ℕ → List Pieces → List ℕ
part_places first [] = []
part_places first (p ∷ ps) = from first (length p.parts) ++ part_places (first + length p.parts + 1) ps
