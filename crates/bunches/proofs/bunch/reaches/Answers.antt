-- `bunches::bunch::reaches` meets its contract.
-- Assumes nothing.
use native.Mathlib.Omega.{arith}
use borrow.Author.Tests.{le-ltb, lt-ltb}
use Rattle.bunches.proofs.bunch.reaches.Goals as goal

pub returns-then-h-eq0 : goal.returns-then-h-eq0
returns-then-h-eq0 c = rw (le-ltb 0 c.args.h (omega arith))

pub returns : goal.returns
returns c = rw (lt-ltb 0 c.args.h (omega arith))
