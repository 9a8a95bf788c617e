-- `admit::vans::vans_right` meets its contract. The loop's invariant: every van before j is at a vertex.
-- Assumes nothing.
use native.Mathlib.Omega.{arith}
use Rattle.admit.proofs.CrewTests.{other_length, van_outside, vans_inside}
use Rattle.admit.proofs.vans.vans_right.Goals as goal

pub returns-then-vans-k : goal.returns-then-vans-k
returns-then-vans-k c = other_length c.args.k c.args.n c.args.vans.now (λ q. omega arith)

pub returns-then-n-u16_at : goal.returns-then-n-u16_at
returns-then-n-u16_at c = van_outside c.args.k c.args.n c.args.vans.now (omega arith) c.loop-j.j (omega arith) (omega arith)

pub returns : goal.returns
returns c = vans_inside c.args.k c.args.n c.args.vans.now (omega arith) (λ j h. c.loop-j.invariant j (omega arith))
