-- What weightless edges join (document 02, A.4), in words of walks.
-- Assumes nothing.
use Rattle.std.specs.Prelude.{ℕ, ◌≤◌, ◌<◌, List, length, eqb}
use Rattle.lists.specs.Count.{below}
use Rattle.lists.specs.Lists.{filter}
use Rattle.lists.specs.Member.{◌∈◌}
use Rattle.graph.specs.Graph.{Graph, edge_count, weight_of}
use Rattle.rules.specs.Walk.{Linked}
use Rattle.rules.specs.Cover.{Crews, rooted, unrooted}

-- The "weightless lines": the graph's edges of weight 0.
unfoldable pub weightless : Graph → List ℕ
weightless g = filter (λ e. eqb (weight_of g e) 0) (below (edge_count g))

-- A walk along weightless edges leads to every vertex from one of these.
abbrev pub JoinedTo : Graph → List ℕ → Type 0
JoinedTo g these = (v : ℕ) → v < g.vertices → (u : ℕ) × (u ∈ these) × Linked g (weightless g) u v

-- "Weightless lines join every stop to a yard, or into at most k components": some at most k vertices, one for each component. A vertex without
-- weightless edges is a component by itself, and so one of them.
abbrev pub WeightlessJoined : Graph → Crews → Type 0
WeightlessJoined g (rooted roots) = JoinedTo g roots
WeightlessJoined g (unrooted k) = (these : List ℕ) × (length these ≤ k) × JoinedTo g these
