-- `admit::crews::crews_right` meets its contract. Assumes nothing.
use native.Mathlib.Omega.{arith}
use Rattle.admit.specs.Brought.{lent}
use Rattle.admit.proofs.CrewTests.{no_crews, many_crews, listed_crews, rooted_crews, unrooted_crews}
use Rattle.admit.proofs.crews.crews_right.Goals as goal

pub returns-then-k-lt1 : goal.returns-then-k-lt1
returns-then-k-lt1 c = no_crews c.args.kind c.args.k c.args.n (lent c.args.vans) (omega arith)

pub returns-then-k-gt32 : goal.returns-then-k-gt32
returns-then-k-gt32 c = many_crews c.args.kind c.args.k c.args.n (lent c.args.vans) (omega arith)

pub returns-in-Some : goal.returns-in-Some
returns-in-Some c = rw c.in-Some.is (listed_crews c.args.kind c.args.k c.args.n _ (omega arith) (omega arith))

pub returns-in-Rooted : goal.returns-in-Rooted
returns-in-Rooted c = rw (c.in-None.is, c.in-Rooted.is) (rooted_crews c.args.k c.args.n (omega arith) (omega arith))

pub returns-in-Unrooted : goal.returns-in-Unrooted
returns-in-Unrooted c = rw c.in-Unrooted.is (unrooted_crews c.args.k c.args.n (omega arith) (omega arith) (lent c.args.vans))
