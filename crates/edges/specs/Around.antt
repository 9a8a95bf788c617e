-- The edges around each vertex, over a list of edges: the whole graph's, or a forest's.
-- Assumes nothing.
use Rattle.std.specs.Prelude.{ℕ, ◌+◌, ◌*◌, ◌/◌, ◌%◌, ◌≤◌, ◌<◌, ◌≡◌, List, map, length, get_or}
use Rattle.lists.specs.Lists.{filter}
use Rattle.lists.specs.Member.{◌∈◌}
use Rattle.lists.specs.Segments.{segment}
use Rattle.graph.specs.Graph.{Graph, edge_count, weight_of}
use Rattle.graph.specs.Valid.{Valid}
use Rattle.rules.specs.Grow.{far_end, touches}

-- An arc is an edge as it is seen from one of its ends: its number, the vertex at its far end (the arc's head), and its weight.
-- One number holds all three, so that one element of an array says all that a walk wants to know of an edge.
unfoldable pub arc_of : Graph → ℕ → ℕ → ℕ
arc_of g v e = e + 65536 * (far_end g e v + 65536 * weight_of g e)

unfoldable pub arc_edge : ℕ → ℕ
arc_edge a = a % 65536

unfoldable pub arc_head : ℕ → ℕ
arc_head a = a / 65536 % 65536

unfoldable pub arc_weight : ℕ → ℕ
arc_weight a = a / 4294967296

-- The arcs of v over a list of edges, in the list's order.
unfoldable pub arcs_at : Graph → List ℕ → ℕ → List ℕ
arcs_at g edges v = map (arc_of g v) (filter (touches g v) edges)

-- What two arrays of arcs say of themselves, whatever graph they are of: for each of n vertices there is a segment of arcs, their heads
-- are vertices, and none weighs more than an edge may. This is all that a walk asks to be safe.
pub record Arcs (n : ℕ) (bounds arcs : List ℕ) : Type 0 where
  pub few : n ≤ 256
  pub bounds_room : n < length bounds
  pub rising : (v : ℕ) → v < n → get_or bounds v 0 ≤ get_or bounds (v + 1) 0
  pub within : (v : ℕ) → v ≤ n → get_or bounds v 0 ≤ length arcs
  pub heads : (v i : ℕ) → v < n → get_or bounds v 0 ≤ i → i < get_or bounds (v + 1) 0 → arc_head (get_or arcs i 0) < n
  pub weights : (v i : ℕ) → v < n → get_or bounds v 0 ≤ i → i < get_or bounds (v + 1) 0 → arc_weight (get_or arcs i 0) ≤ 1000000

-- The arrays hold the edges around every vertex of a valid graph, over a list of its edges: segment v is the arcs of v.
-- This one agreement ties all that works on arcs to the graph.
pub record Around (g : Graph) (edges bounds arcs : List ℕ) : Type 0 where
  pub valid : Valid g
  pub inside : (e : ℕ) → e ∈ edges → e < edge_count g
  pub sound : Arcs g.vertices bounds arcs
  pub are : (v : ℕ) → v < g.vertices → segment bounds arcs v ≡ arcs_at g edges v
