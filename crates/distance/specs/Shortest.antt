-- What the distances and the last edges, in two arrays, say of a graph.
-- Assumes nothing.
use Rattle.std.specs.Prelude.{ℕ, ◌≤◌, ◌<◌, ◌≡◌, List, length, get_or}
use Rattle.std.proofs.Math.Option.{some, none}
use Rattle.lists.specs.Count.{below}
use Rattle.lists.specs.Member.{◌∈◌}
use Rattle.lists.specs.InOrder.{Once}
use Rattle.lists.specs.Put.{OnlyFirst}
use Rattle.graph.specs.Graph.{Graph, edge_count}
use Rattle.rules.specs.Walk.{Walk, total_weight}
use Rattle.rules.specs.ClosedWalk.{stops_from}
use Rattle.rules.specs.Distance.{Distance, distances}
use Rattle.edges.specs.Around.{Arcs, Around}
use Rattle.distance.specs.Trail.{HasTrail, trail_of}

-- What stands in the array of distances where there is none. Every distance is below it.
abbrev pub unreached : ℕ
unreached = 4294967295

-- The number in the array says the distance.
pub data SaysDistance (x : ℕ) (d : Distance) : Type 0 where
  nowhere : x ≡ unreached → d ≡ none → SaysDistance x d
  there : x < unreached → d ≡ some x → SaysDistance x d

-- The edges are those of a path from v back to the root, of that weight, which comes to no vertex twice.
pub record IsPathBack (g : Graph) (root v : ℕ) (edges : List ℕ) (weight : ℕ) : Type 0 where
  pub inside : (e : ℕ) → e ∈ edges → e < edge_count g
  pub leads : Walk g edges v root
  pub once : Once (stops_from g v edges)
  pub weighs : total_weight g edges ≡ weight

-- The arrays say the distance of each vertex from the root, and for each vertex that has one the trail is a path of that weight.
pub record Shortest (g : Graph) (root : ℕ) (dist last : List ℕ) : Type 0 where
  pub distance : (v : ℕ) → v < g.vertices → SaysDistance (get_or dist v 0) (get_or (distances g root) v none)
  pub trail : (v : ℕ) → v < g.vertices → get_or dist v 0 < unreached → HasTrail g.vertices last root v
  pub path : (v : ℕ) → v < g.vertices → get_or dist v 0 < unreached → IsPathBack g root v (trail_of last root v) (get_or dist v 0)

-- What the search for distances asks: arcs of n vertices, the root one of them, and room for each vertex.
pub record Searchable (n : ℕ) (bounds arcs : List ℕ) (root : ℕ) (dist last : List ℕ) : Type 0 where
  pub sound : Arcs n bounds arcs
  pub root_inside : root < n
  pub dist_room : n ≤ length dist
  pub last_room : n ≤ length last

-- What it promises: of whatever graph the arcs are, the arrays say its distances from the root. What stands beyond the n vertices is as it came.
pub record Searched (n : ℕ) (bounds arcs : List ℕ) (root : ℕ) (dist last dist_after last_after : List ℕ) : Type 0 where
  pub of_graph : (g : Graph) → Around g (below (edge_count g)) bounds arcs → g.vertices ≡ n → Shortest g root dist_after last_after
  pub dist_rest : OnlyFirst n dist dist_after
  pub last_rest : OnlyFirst n last last_after
