-- The walk along a tree as arrays hold it, and one turn of it.
-- Assumes nothing.
use Rattle.std.specs.Prelude.{ℕ, ◌+◌, ◌-◌, ◌≤◌, ◌<◌, ◌≡◌, List, length, get_or}
use Rattle.lists.specs.Lists.{filter}
use Rattle.lists.specs.Member.{◌∈◌}
use Rattle.lists.specs.Segments.{segment}
use Rattle.graph.specs.Graph.{Graph}
use Rattle.graph.specs.Valid.{Valid}
use Rattle.rules.specs.Cover.{Tree, IsTree}
use Rattle.rules.specs.Grow.{touches}
use Rattle.rules.specs.ClosedWalk.{stops_from, stops_of, Underway, after_turns, closed_walk}
use Rattle.rules.specs.WalkQuestion.{least_walk_room}
use Rattle.edges.specs.Around.{arc_edge, Around}

-- THE NEXT EDGE

-- A place among the arcs, whose edges have a mark each.
pub record PlaceAsked (around marks : List ℕ) (from : ℕ) : Type 0 where
  pub within : from ≤ length around
  pub each : (i : ℕ) → i < length around → arc_edge (get_or around i 0) < length marks

-- The edges from the place up to r are marked, and that at r, where there is one, is not.
pub record NextPlace (around marks : List ℕ) (from r : ℕ) : Type 0 where
  pub forward : from ≤ r
  pub within : r ≤ length around
  pub passed : (i : ℕ) → from ≤ i → i < r → get_or marks (arc_edge (get_or around i 0)) 0 ≡ 1
  pub next : r < length around → get_or marks (arc_edge (get_or around r 0)) 0 ≡ 1 → ⊥

-- The arcs of v stand between its bounds.
pub record ArcsHeld (bounds arcs : List ℕ) (v : ℕ) : Type 0 where
  pub bounded : v + 1 < length bounds
  pub forward : get_or bounds v 0 ≤ get_or bounds (v + 1) 0
  pub inside : get_or bounds (v + 1) 0 ≤ length arcs

-- r are these arcs, no more than a bound can count.
pub record ArcsOf (bounds arcs : List ℕ) (v : ℕ) (r : List ℕ) : Type 0 where
  pub is : r ≡ segment bounds arcs v
  pub few : length r < 65536

-- WHERE THE WALK IS

-- The tree's edges at a vertex, by number.
abbrev pub edges_around : Graph → Tree → ℕ → List ℕ
edges_around g t v = filter (touches g v) t.edges

-- The arrays say where the walk is: those edges of a vertex that are passed over are walked; the marks are those of the walked edges; and the stops of
-- the way back stand in their array from the depth downwards, the first where the walk is.
pub record Walking (g : Graph) (t : Tree) (s : Underway) (bounds arcs places marks way : List ℕ) (depth : ℕ) : Type 0 where
  pub around : Around g t.edges bounds arcs
  pub places_room : length places ≡ 256
  pub marks_room : length marks ≡ 2048
  pub way_room : length way ≡ 257
  pub within : (v : ℕ) → v < g.vertices → get_or places v 0 ≤ length (edges_around g t v)
  pub passed : (v i : ℕ) → v < g.vertices → i < get_or places v 0 → get_or (edges_around g t v) i 0 ∈ s.crossings
  pub marked : (e : ℕ) → e ∈ s.crossings → get_or marks e 0 ≡ 1
  pub only_marked : (e : ℕ) → get_or marks e 0 ≡ 1 → e ∈ s.crossings
  pub deep : depth ≡ length s.way
  pub stack : (i : ℕ) → i ≤ depth → get_or way (depth - i) 0 ≡ get_or (stops_from g s.stop s.way) i 0
  pub vertices : (i : ℕ) → i ≤ depth → get_or way i 0 < g.vertices

-- They do so after some number of turns, of a tree so small that there is room for one stop more.
pub record TurnAsked (bounds arcs places marks way : List ℕ) (depth : ℕ) : Type 0 where
  pub graph : Graph
  pub tree : Tree
  pub turns : ℕ
  pub walking : Walking graph tree (after_turns graph tree turns) bounds arcs places marks way depth
  pub room : depth < 256

-- Whatever walk it was, after any number of turns, it is one turn further.
pub record TurnTaken (bounds arcs places places_after marks marks_after way way_after : List ℕ) (depth r : ℕ) : Type 0 where
  pub further : (g : Graph) (t : Tree) (i : ℕ) → Walking g t (after_turns g t i) bounds arcs places marks way depth
      → Walking g t (after_turns g t (i + 1)) bounds arcs places_after marks_after way_after r

-- THE WHOLE WALK

abbrev pub tree_of : ℕ → List ℕ → Tree
tree_of start edges = record { start = start; edges = edges }

-- A tree of a valid graph, and room for the stops of any walk.
pub record WriteAsked (g : Graph) (t : Tree) (room : ℕ) : Type 0 where
  pub valid : Valid g
  pub is_tree : IsTree g t
  pub fits : least_walk_room ≤ room

-- The stops of the walk along a tree.
abbrev pub walk_stops : Graph → Tree → List ℕ
walk_stops g t = stops_of g (closed_walk g t)
