-- Crews that fit a graph, and free choices that are good for crews of either kind.
-- Assumes nothing.
use Rattle.std.specs.Prelude.{ℕ, ◌≤◌, ◌<◌, length}
use Rattle.lists.specs.Member.{◌∈◌}
use Rattle.graph.specs.Graph.{Graph}
use Rattle.rules.specs.Cover.{Crews, rooted, unrooted}
use Rattle.rules.specs.RootedTrial.{Choices, GoodChoices}

-- How many crews there are (document 01: k).
unfoldable pub crew_count : Crews → ℕ
crew_count (rooted roots) = length roots
crew_count (unrooted k) = k

-- What the theorems ask of crews: there is at least one, and each root is a vertex. The crews of a question that 21 and 55 do not refuse are such
-- (proofs/CrewsRight.antt).
abbrev pub CrewsFit : Graph → Crews → Type 0
CrewsFit g (rooted roots) = (1 ≤ length roots) × ((r : ℕ) → r ∈ roots → r < g.vertices)
CrewsFit g (unrooted k) = 1 ≤ k

-- What holds of the free choices of a trial at a limit. An unrooted trial has none.
abbrev pub GoodFor : Graph → Crews → ℕ → Choices → Type 0
GoodFor g (rooted roots) limit c = GoodChoices g roots limit c
GoodFor g (unrooted k) limit c = Unit {0}
