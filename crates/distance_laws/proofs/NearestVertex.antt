-- A shortest path to the nearest vertex of a part is a shortest path to the part.
-- Assumes nothing.
use Prim.Native.Nat.{ℕ, ◌≤◌, ◌<◌}
use mathlib.Core.Path.{◌≡◌}
use mathlib.Core.List.{List}
use mathlib.Core.Option.{some}
use native.Mathlib.Omega.{arith}
use Rattle.lists.specs.Member.{◌∈◌}
use Rattle.lists.specs.InOrder.{Once}
use Rattle.graph.specs.Graph.{Graph, edge_count}
use Rattle.graph.specs.Valid.{Valid}
use Rattle.rules.specs.Walk.{Walk, total_weight}
use Rattle.rules.specs.Cover.{Tree}
use Rattle.rules.specs.ClosedWalk.{stops_from}
use Rattle.rules.specs.Distance.{tree_vertices, IsShortestPath}
use Rattle.distance_laws.proofs.Least.{distance_to, distance_most}

-- The path leads to a vertex of the part, and no vertex of the part has a distance below its weight.
pub nearest_shortest : {g : Graph} → Valid g → {r : ℕ} → r < g.vertices → {part : Tree} {path : List ℕ} {v : ℕ} → v ∈ tree_vertices g part
    → ((e : ℕ) → e ∈ path → e < edge_count g) → Walk g path r v → Once (stops_from g r path)
    → ((u d : ℕ) → u ∈ tree_vertices g part → distance_to g r u ≡ some d → total_weight g path ≤ d) → IsShortestPath g r part path
nearest_shortest valid start {v = v} m inside walk once least = record {
  inside = inside;
  end = v;
  in_part_lem = m;
  leads = walk;
  once = once;
  shortest = λ u other k w. let d = distance_most valid start w in omega (arith, d.low, least u d.value k d.is);
}
