-- Closed walks along small trees, computed from the definitions (document 02, A.1).
-- Assumes nothing.
use Rattle.std.specs.Prelude.{ℕ, ◌≡◌, refl, List, [], ◌∷◌}
use Rattle.graph.specs.Graph.{Graph, Edge}
use Rattle.rules.specs.Cover.{Tree}
use Rattle.rules.specs.Districts.{N, tree}
use Rattle.lists.specs.Count as Count
use Rattle.lists.specs.Lists as Lists
use Rattle.graph.specs.Surface as Surface
use Rattle.graph.specs.Bytes as Bytes
use Rattle.rules.specs.Walk as Walk
use Rattle.rules.specs.Grow as Grow
use Rattle.rules.specs.ClosedWalk as ClosedWalk

-- The walk along a tree: its crossings, its stops, its length. To unfold it is to unfold the definitions.
unfoldable pub walked : Graph → Tree → List ℕ × List ℕ × ℕ
unfolding Lists.any Lists.first_that Lists.sum_of Lists.member Grow.far_end Grow.touches Walk.total_weight
    ClosedWalk.stops_from ClosedWalk.stops_of ClosedWalk.length_of ClosedWalk.next_edge ClosedWalk.crossed ClosedWalk.homeward ClosedWalk.turn_by
    ClosedWalk.turn ClosedWalk.after_turns ClosedWalk.closed_walk
walked g t = let walk = ClosedWalk.closed_walk g t in (walk.crossings, ClosedWalk.stops_of g walk, ClosedWalk.length_of g walk)

-- Sheet N: out along its edges 0 and 1, and back.
pub sheet_N : walked (Bytes.graph_of N []) (tree 0 (0 ∷ 1 ∷ [])) ≡ (0 ∷ 1 ∷ 1 ∷ 0 ∷ [], 0 ∷ 2 ∷ 3 ∷ 2 ∷ 0 ∷ [], 12)
unfolding walked N tree Count.from Count.below Bytes.u16_at Bytes.u32_at Bytes.edge_in Bytes.edges_held Bytes.sheet_graph Bytes.graph_of
    Surface.percent_of Surface.adjusted Surface.class_at Surface.surfaced
sheet_N = refl

-- A star around vertex 2: the edges 0 to 3 lead to the vertices 0, 1, 3 and 4, and weigh 1 to 4.
unfoldable pub star : Graph
star = record { vertices = 5; edges = edge 2 0 1 ∷ edge 1 2 2 ∷ edge 2 3 3 ∷ edge 4 2 4 ∷ [] }
  where
    edge : ℕ → ℕ → ℕ → Edge
    edge a b w = record { one = a; other = b; weight = w }

-- From its middle, by rising number;
pub star_middle : walked star (tree 2 (0 ∷ 1 ∷ 2 ∷ 3 ∷ [])) ≡ (0 ∷ 0 ∷ 1 ∷ 1 ∷ 2 ∷ 2 ∷ 3 ∷ 3 ∷ [], 2 ∷ 0 ∷ 2 ∷ 1 ∷ 2 ∷ 3 ∷ 2 ∷ 4 ∷ 2 ∷ [], 20)
unfolding walked star tree
star_middle = refl

-- and from vertex 1, whose edge 1 comes first and last.
pub star_leaf : walked star (tree 1 (0 ∷ 1 ∷ 2 ∷ 3 ∷ [])) ≡ (1 ∷ 0 ∷ 0 ∷ 2 ∷ 2 ∷ 3 ∷ 3 ∷ 1 ∷ [], 1 ∷ 2 ∷ 0 ∷ 2 ∷ 3 ∷ 2 ∷ 4 ∷ 2 ∷ 1 ∷ [], 20)
unfolding walked star tree
star_leaf = refl

-- No edge: the walk stays.
pub no_edge : walked star (tree 3 []) ≡ ([], 3 ∷ [], 0)
unfolding walked tree
no_edge = refl
