-- What putting the edges around each vertex asks, over a forest's edges by rising number.
-- Assumes nothing.
use Rattle.std.specs.Prelude.{ℕ, ◌*◌, ◌≤◌, ◌<◌, List, length}
use Rattle.lists.specs.InOrder.{Once}
use Rattle.lists.specs.Member.{◌∈◌}
use Rattle.graph.specs.Graph.{Graph, edge_count}
use Rattle.graph.specs.Valid.{Valid}

-- The graph is valid, the edges are as a forest has them, few and none twice, and there is room for their arcs.
pub record ArcsAsked (g : Graph) (edges bounds arcs : List ℕ) : Type 0 where
  pub valid : Valid g
  pub inside : (e : ℕ) → e ∈ edges → e < edge_count g
  pub once : Once edges
  pub few : length edges ≤ 256
  pub bounds_room : g.vertices < length bounds
  pub arcs_room : 2 * length edges ≤ length arcs
