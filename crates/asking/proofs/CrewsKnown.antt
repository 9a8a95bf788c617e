-- Where what crews read at every limit is ready, good choices exist; where everything that they read is, the search may walk.
-- Assumes nothing.
use Prim.Native.Nat.{ℕ}
use mathlib.Core.List.{List, []}
use Rattle.graph.specs.Graph.{Graph}
use Rattle.rules.specs.RootedTrial.{Choices}
use Rattle.rules.specs.Fit.{GoodFor}
use Rattle.planner_laws.proofs.SomeChoices.{some_choices}
use Rattle.rooted_state.proofs.RootsReady.{roots_inside}
use Rattle.prepare.specs.declared.crews.Crews.{Crews}
use Rattle.prepare.specs.declared.crews.Crews.TheVariants.{Rooted, Unrooted}
use Rattle.prepare.specs.declared.crews.Prepared.{Prepared}
use Rattle.prepare.specs.Crews.{the_crews, CrewsReady}
use Rattle.search.specs.Searching.{Walkable}
use Rattle.answers.specs.Answers.{AllReady, AnswerAsked}

-- Good choices exist for crews of either kind.
pub choices_for : {g : Graph} {kept : List ℕ} (crews : Crews) → CrewsReady g kept crews → (limit : ℕ) → (c : Choices) × GoodFor g (the_crews crews) limit c
choices_for (Rooted roots around table) r limit = some_choices r.valid roots.now (roots_inside r.limits.given) limit
choices_for (Unrooted k merges) r limit = (record { assignment = []; paths = []; marks = [] }, tt)

module _ (g : Graph) (order kept : List ℕ) where
  walk_of : (crews : Crews) → AllReady g order kept crews → Walkable g crews
  walk_of (Rooted roots around table) r = record { given = r.decidable.given; around = r.around }
  walk_of (Unrooted k merges) r = tt

module _ {g : Graph} {p : Prepared} {room : ℕ} (a : AnswerAsked g p room) where
  pub walkable : Walkable g p.crews
  walkable = walk_of g p.order.now p.kept.now p.crews a.ready
