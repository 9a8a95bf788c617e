-- The path that is marked for a part is a shortest one: it leads back from a nearest vertex of the part, by the distances from the root.
-- Assumes nothing.
use Prim.Native.Nat.{ℕ, ◌≤◌, ◌<◌}
use mathlib.Core.List.{List}
use lib.ListN.{length, get_or}
use Rattle.lists.specs.Member.{◌∈◌}
use Rattle.graph.specs.Graph.{Graph}
use Rattle.graph.specs.Valid.{Valid}
use Rattle.rules.specs.Cover.{Tree}
use Rattle.rules.specs.Distance.{tree_vertices, IsShortestPath}
use Rattle.rules.proofs.Linked.{turned}
use Rattle.distance.specs.Trail.{trail_of, CanGoBack}
use Rattle.distance.specs.Shortest.{unreached, Shortest}
use Rattle.distance.proofs.NearestPath.{can_go_back, nearest_path}
use Rattle.distance_table.specs.Nearest.{Nearest}

module _ {g : Graph} {last dist : List ℕ} {root : ℕ} {t : Tree} {v : ℕ} (s : Shortest g root dist last) (n : Nearest g dist t v)
    (reached : get_or dist v 0 < unreached) where
  -- It may be followed back,
  pub nearest_back : {room : ℕ} → g.vertices ≤ length last → g.vertices ≤ room → CanGoBack last root v room
  nearest_back in_last fits = can_go_back s n.inside reached in_last fits

  -- and is a shortest path, turned round.
  pub nearest_shortest_path : Valid g → root < g.vertices → ((u : ℕ) → u ∈ tree_vertices g t → u < g.vertices) → IsShortestPath g root t (turned (trail_of last root v))
  nearest_shortest_path valid start inside =
      nearest_path s valid start n.covered reached (λ u m. (inside u m, n.nearest u m))
