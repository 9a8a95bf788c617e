-- `planner_c::said::put_walk` meets its contract. Assumes nothing.
use native.Mathlib.Omega.{arith}
use Rattle.planner_c.proofs.Values.{puts_two}
use Rattle.planner_c.proofs.said.put_walk.Goals as goal

pub returns-in-Ok : goal.returns-in-Ok
returns-in-Ok c = rw c.in-Ok.is (puts_two c.args.values.now (omega (arith, c.requires)))
