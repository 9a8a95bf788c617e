-- Anybody's closed walks that together come to every vertex (document 02, A.1). They need not follow trees, may cross any edge any number of times,
-- and may cross none: such a walk still comes to the vertex where it stands.
-- Assumes nothing.
use Rattle.std.specs.Prelude.{ℕ, ◌≤◌, ◌<◌, ◌≡◌, List, map, length}
use Rattle.lists.specs.Lists.{largest}
use Rattle.lists.specs.Member.{◌∈◌}
use Rattle.graph.specs.Graph.{Graph}
use Rattle.rules.specs.Walk.{Walk}
use Rattle.rules.specs.Cover.{Tree, Crews, rooted, unrooted}
use Rattle.rules.specs.ClosedWalk.{Route, stops_of, length_of, closed_walk}

-- "One walk for each crew from its own yard, or, roving, at most k walks."
abbrev pub Begin : Crews → List Route → Type 0
Begin (rooted roots) walks = map (λ (w : Route). w.start) walks ≡ roots
Begin (unrooted k) walks = length walks ≤ k

-- "Closed walks that together cover the sheet."
pub record ClosedWalks (g : Graph) (crews : Crews) (walks : List Route) : Type 0 where
  pub begin : Begin crews walks
  pub inside : (w : Route) → w ∈ walks → w.start < g.vertices
  pub closed : (w : Route) → w ∈ walks → Walk g w.crossings w.start w.start
  pub together : (v : ℕ) → v < g.vertices → (w : Route) × (w ∈ walks) × (v ∈ stops_of g w)

-- "The longest" of the walks.
unfoldable pub longest : Graph → List Route → ℕ
longest g walks = largest (length_of g) walks

-- Our walks, one along each tree.
abbrev pub walks_along : Graph → List Tree → List Route
walks_along g trees = map (closed_walk g) trees
