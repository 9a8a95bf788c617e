-- `needs::history::needed_by_history` meets its contract. The loop's invariant: the merges before i are summed. Assumes nothing.
use native.Mathlib.Omega.{arith}
use Rattle.needs.proofs.HistoryRead.{reading_none, reading_fits, reading_more, reading_all}
use Rattle.needs.proofs.history.needed_by_history.Goals as goal

pub loop-i-init : goal.loop-i-init
loop-i-init c = reading_none c.requires c.args.limit

pub overflow_add-sum : goal.overflow_add-sum
overflow_add-sum c = omega (arith, c.more_needs-sum.ensures, reading_fits c.requires c.args.limit c.loop-i.invariant (omega arith))

pub loop-i-preserved : goal.loop-i-preserved
loop-i-preserved c = rw c.more_needs-sum.ensures (reading_more c.requires c.args.limit c.loop-i.invariant (omega arith))

pub returns : goal.returns
returns c = reading_all c.requires c.args.limit c.loop-i.invariant (omega arith)

pub returns-2 : goal.returns-2
returns-2 c = rw c.more_needs-sum.ensures (reading_all c.requires c.args.limit (reading_more c.requires c.args.limit c.loop-i.invariant (omega arith)) (omega arith))
