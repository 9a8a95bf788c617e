-- `forest::labels::relabelled` meets its contract: the definition takes the arm that the test says. Assumes nothing.
use borrow.Author.Tests.{eq-eqb, ne_eqb}
use Rattle.forest.proofs.labels.relabelled.Goals as goal

pub returns-then-x-from : goal.returns-then-x-from
returns-then-x-from c = rw (eq-eqb c.args.x c.args.from c.if-x-from.true)

pub returns-else-x-from : goal.returns-else-x-from
returns-else-x-from c = rw (ne_eqb c.args.x c.args.from c.if-x-from.false)
