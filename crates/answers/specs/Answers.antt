-- What the answer at a limit asks, by crews of either kind, over what is prepared once a question.
-- Assumes nothing.
use Rattle.std.specs.Prelude.{ℕ, ◌≤◌, ◌≡◌, List}
use Rattle.graph.specs.Graph.{Graph}
use Rattle.rules.specs.Order.{ordered}
use Rattle.rules.specs.Questions.{least_room, most_limit}
use Rattle.rooted_state.specs.Prepared as rooted
use Rattle.rooted_decide.specs.Decide.{NoCoverAsked}
use Rattle.needs.specs.Given.{ForestKept}
use Rattle.unrooted.specs.Answer.{HistoryReady}
use Rattle.prepare.specs.declared.crews.Crews.{Crews}
use Rattle.prepare.specs.declared.crews.Crews.TheVariants.{Rooted, Unrooted}
use Rattle.prepare.specs.declared.crews.Prepared.{Prepared}

-- The whole forest, for crews of each kind from where they begin.
abbrev pub ForestReady : Graph → List ℕ → Crews → Type 0
ForestReady g kept (Rooted roots around table) = NoCoverAsked g roots.now kept
ForestReady g kept (Unrooted k merges) = ForestKept g kept

-- The whole forest with its history, the edges in order, and at most 32 crews without roots.
pub record UnrootedReady (g : Graph) (k : ℕ) (order kept total until : List ℕ) : Type 0 where
  pub history : HistoryReady g kept total until
  pub in_order : order ≡ ordered g
  pub crews_few : k ≤ 32

-- Everything that the crews read, each kind its own.
abbrev pub AllReady : Graph → List ℕ → List ℕ → Crews → Type 0
AllReady g order kept (Rooted roots around table) = rooted.Prepared g roots.now order kept around.bounds.now around.arcs.now table.distances.now table.lasts.now
AllReady g order kept (Unrooted k merges) = UnrootedReady g k order kept merges.total.now merges.until.now

-- The same, and a buffer that is large enough.
pub record AnswerAsked (g : Graph) (p : Prepared) (room : ℕ) : Type 0 where
  pub ready : AllReady g p.order.now p.kept.now p.crews
  pub room_most : least_room ≤ room

-- The same at a limit.
pub record LimitAsked (g : Graph) (p : Prepared) (limit room : ℕ) : Type 0 where
  pub answer : AnswerAsked g p room
  pub limit_most : limit ≤ most_limit
