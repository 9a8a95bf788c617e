-- What the arrays are for: the trail of the vertex of a part that has the least distance, turned round, is a shortest path to the part.
-- Assumes nothing.
use Prim.Native.Nat.{ℕ, ◌≤◌, ◌<◌}
use mathlib.Core.Path.{◌≡◌, sym, ◌∙◌}
use mathlib.Core.List.{List}
use mathlib.Core.Option.{some, none-ne-some}
use native.Mathlib.Omega.{arith}
use lib.ListN.{length, get_or}
use Rattle.lists.specs.Member.{◌∈◌}
use Rattle.graph.specs.Graph.{Graph}
use Rattle.graph.specs.Valid.{Valid}
use Rattle.rules.specs.Cover.{Tree}
use Rattle.rules.specs.Distance.{Distance, tree_vertices, IsShortestPath}
use Rattle.rules.proofs.Linked.{turned, of_turned, turned_once, walk_back}
use Rattle.rules.proofs.WalkStops.{stops_turned}
use Rattle.distance_laws.proofs.PathWeights.{turned_weight}
use Rattle.distance_laws.proofs.NearestVertex.{nearest_shortest}
use Rattle.distance.specs.Trail.{trail_of, CanGoBack}
use Rattle.distance.specs.Shortest.{unreached, SaysDistance, nowhere, there, Shortest}

-- What stands in the array is the distance, where there is one.
says_some : {x d : ℕ} {y : Distance} → SaysDistance x y → y ≡ some d → x ≡ d
says_some (nowhere p q) t = absurd (none-ne-some _ (sym q ∙ t))
says_some (there p q) t = cc

module _ {g : Graph} {root : ℕ} {dist last : List ℕ} (s : Shortest g root dist last) where
  -- The trail of a vertex reached is written where there is room for fewer edges than there are vertices.
  pub can_go_back : {v room : ℕ} → v < g.vertices → get_or dist v 0 < unreached → g.vertices ≤ length last → g.vertices ≤ room → CanGoBack last root v room
  can_go_back {v} h low in_last fits =
      let t = s.trail v h low in
      record { edges = t.edges; is = t.is; short = omega (arith, t.few); fits = omega (arith, t.few) }

  -- Of the vertices of a part v has the least distance, all of them compared.
  pub nearest_path : Valid g → root < g.vertices → {part : Tree} {v : ℕ} → v ∈ tree_vertices g part → get_or dist v 0 < unreached
      → ((u : ℕ) → u ∈ tree_vertices g part → (u < g.vertices) × (get_or dist v 0 ≤ get_or dist u 0))
      → IsShortestPath g root part (turned (trail_of last root v))
  nearest_path valid start {part} {v} m low least =
      let path = s.path v (least v m).0 low in
      let trail = trail_of last root v in
      nearest_shortest valid start m (λ e k. path.inside e (of_turned trail k)) (walk_back path.leads)
      (rw (stops_turned path.leads) (turned_once path.once))
      (λ u d k q. omega (arith, turned_weight g trail, path.weighs, least u k, says_some (s.distance u (least u k).0) q))
