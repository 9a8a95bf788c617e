-- The crews of a question below the entry point, which hold what they read, prepared.
-- Assumes nothing.
use Rattle.std.specs.Prelude.{ℕ, List}
use Rattle.graph.specs.Graph.{Graph}
use Rattle.graph.specs.Valid.{Valid}
use Rattle.rules.specs.Cover as cover
use Rattle.rooted_state.specs.Prepared.{Decidable}
use Rattle.unrooted.specs.Answer.{HistoryReady}
use Rattle.prepare.specs.declared.crews.Crews.{Crews}
use Rattle.prepare.specs.declared.crews.Crews.TheVariants.{Rooted, Unrooted}

-- The crews that the rules know: by a list of roots, or k without.
abbrev pub the_crews : Crews → cover.Crews
the_crews (Rooted roots around table) = cover.rooted roots.now
the_crews (Unrooted k merges) = cover.unrooted k

-- What crews of each kind read at every limit: with roots the whole forest and the distances; without roots the whole forest and the history of its
-- merges.
abbrev pub LimitsReady : Graph → List ℕ → Crews → Type 0
LimitsReady g kept (Rooted roots around table) = Decidable g roots.now kept table.distances.now
LimitsReady g kept (Unrooted k merges) = HistoryReady g kept merges.total.now merges.until.now

-- The same, and a valid graph.
pub record CrewsReady (g : Graph) (kept : List ℕ) (crews : Crews) : Type 0 where
  pub valid : Valid g
  pub limits : LimitsReady g kept crews
