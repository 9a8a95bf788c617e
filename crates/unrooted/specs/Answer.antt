-- The answer and the decision of a trial by crews without roots (document 01, a "roving" trial, step 7), from the whole forest that is prepared
-- once a question.
-- Assumes nothing.
use Rattle.std.specs.Prelude.{ℕ, ◌≤◌, ◌≡◌, List, length, take}
use Rattle.graph.specs.Graph.{Graph}
use Rattle.rules.specs.Labels.{apart}
use Rattle.rules.specs.Forest.{forest}
use Rattle.rules.specs.UnrootedTrial.{needed}
use Rattle.rules.specs.Questions.{least_room, most_limit}
use Rattle.needs.specs.Given.{ForestKept}
use Rattle.needs.specs.History.{HistoryKept}
use Rattle.unrooted.specs.declared.answer.AtLimit.{AtLimit}

-- A valid graph, its whole forest, and the history of its merges.
pub record HistoryReady (g : Graph) (kept total until : List ℕ) : Type 0 where
  pub forest_kept : ForestKept g kept
  pub history : HistoryKept g kept total until

-- The front of the whole forest that is the forest at the limit, and "the sum C" there.
pub record LimitKnown (g : Graph) (kept : List ℕ) (limit : ℕ) (r : AtLimit) : Type 0 where
  pub few : r.edges ≤ length kept
  pub front : take r.edges kept ≡ forest g apart limit
  pub needs : r.trees ≡ needed g limit

-- The same, crews and a limit that 21 and 22 do not refuse, and room for the bytes of any cover.
pub record UnrootedAnswerAsked (g : Graph) (k limit : ℕ) (kept total until : List ℕ) (room : ℕ) : Type 0 where
  pub ready : HistoryReady g kept total until
  pub crews_few : k ≤ 32
  pub limit_most : limit ≤ most_limit
  pub enough : least_room ≤ room
