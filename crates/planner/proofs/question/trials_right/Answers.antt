-- `planner::question::trials_right` meets its contract. Assumes nothing.
use native.Mathlib.Omega.{arith}
use Rattle.planner.proofs.Promised.{trials_few, trials_some, trials_none}
use Rattle.planner.proofs.question.trials_right.Goals as goal

pub returns-in-At : goal.returns-in-At
returns-in-At c = rw c.in-At.is (trials_none _)

pub returns-then-trials-ge2 : goal.returns-then-trials-ge2
returns-then-trials-ge2 c = rw c.in-Within.is (trials_some c.in-Within.trials (omega (arith, c.if-trials-ge2.true)))

pub returns-else-trials-ge2 : goal.returns-else-trials-ge2
returns-else-trials-ge2 c = rw c.in-Within.is (trials_few c.in-Within.trials (omega (arith, c.if-trials-ge2.false)))
