-- `near::vertices::shift_for` meets its contract: the definition takes the arm that the test says. Assumes nothing.
use native.Mathlib.Omega.{arith}
use borrow.Author.Tests.{lt-ltb, le-ltb}
use Rattle.near.proofs.vertices.shift_for.Goals as goal

pub returns-then-r-lt32 : goal.returns-then-r-lt32
returns-then-r-lt32 c = rw (lt-ltb c.args.r 32 c.if-r-lt32.true)

pub returns-else-r-lt32 : goal.returns-else-r-lt32
returns-else-r-lt32 c = rw (le-ltb c.args.r 32 (omega (arith, c.if-r-lt32.false)))
