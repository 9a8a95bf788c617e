-- `needs::history::more_needs` meets its contract: at the limit 0 nothing is divided, and halving may come last. Assumes nothing.
use native.Mathlib.Omega.{arith}
use Rattle.needs.proofs.HistoryRead.{more_gone, more_at_zero, more_there}
use Rattle.needs.proofs.history.more_needs.Goals as goal

pub returns-then-wide-light : goal.returns-then-wide-light
returns-then-wide-light c = more_gone c.args.weight c.args.until c.args.light c.args.limit (omega (arith, c.wide.ensures.is))

pub returns-then-limit-eq0 : goal.returns-then-limit-eq0
returns-then-limit-eq0 c = more_at_zero c.args.weight c.args.until c.args.light c.args.limit c.if-limit-eq0.true

pub returns : goal.returns
returns c = more_there c.args.weight c.args.until c.args.light c.args.limit (omega (arith, c.wide.ensures.is))
