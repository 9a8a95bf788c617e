-- `steps::step::step_of` meets its contract: a step is packed as an arc is. Assumes nothing.
use Rattle.steps.specs.Steps.{step_of}
use borrow.Author.Rules.{rules}
use Rattle.steps.proofs.step.step_of.Goals as goal

pub returns : goal.returns
unfolding step_of
returns c = search rules
