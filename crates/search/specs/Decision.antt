-- What a decision at a limit takes, by crews of either kind, over what is prepared once a question.
-- Assumes nothing.
use Rattle.std.specs.Prelude.{ℕ, ◌≤◌, ◌≡◌, false, List}
use Rattle.graph.specs.Graph.{Graph}
use Rattle.rules.specs.Search.{no_cover_exists}
use Rattle.rules.specs.Questions.{most_limit}
use Rattle.rooted_state.specs.Prepared.{WholeSteps}
use Rattle.prepare.specs.declared.crews.Crews.{Crews}
use Rattle.prepare.specs.declared.crews.Crews.TheVariants.{Rooted, Unrooted}
use Rattle.prepare.specs.declared.crews.Prepared.{Prepared}
use Rattle.prepare.specs.Crews.{the_crews, CrewsReady}

-- What every decision of a search takes: what is prepared, and that the crews have some cover.
pub record CrewsPrepared (g : Graph) (p : Prepared) : Type 0 where
  pub ready : CrewsReady g p.kept.now p.crews
  pub some_cover : no_cover_exists g (the_crews p.crews) ≡ false

-- The steps of the whole forest's trees, which crews with roots read; crews without read none.
abbrev pub Stepped : Graph → Crews → List ℕ → Type 0
Stepped g (Rooted roots around table) steps = WholeSteps g roots.now steps
Stepped g (Unrooted k merges) steps = Unit {0}

-- What is prepared, with the steps, and a limit within document 01's range.
pub record DecisionAsked (g : Graph) (p : Prepared) (limit : ℕ) (steps : List ℕ) : Type 0 where
  pub prepared : CrewsPrepared g p
  pub stepped : Stepped g p.crews steps
  pub limit_most : limit ≤ most_limit
