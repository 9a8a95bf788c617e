-- `planner_c::said::put_heaviest` meets its contract. Assumes nothing.
use native.Mathlib.Omega.{arith}
use Rattle.planner_c.proofs.Values.{puts_one}
use Rattle.planner_c.proofs.said.put_heaviest.Goals as goal

pub returns-in-Ok : goal.returns-in-Ok
returns-in-Ok c = rw c.in-Ok.is (puts_one c.args.values.now (omega (arith, c.requires)))
