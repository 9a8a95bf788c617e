-- `admit::brought::admit_classes` meets its contract: without a list nothing is refused, and with one its test decides.
-- Assumes nothing.
use Rattle.admit.proofs.Tested.{unlisted}
use Rattle.admit.proofs.brought.admit_classes.Goals as goal

pub returns-in-None : goal.returns-in-None
returns-in-None c = rw c.in-None.is (unlisted c.args.b.now c.requires)

pub returns-in-Some : goal.returns-in-Some
returns-in-Some c = rw c.in-Some.is c.admit_list.ensures
