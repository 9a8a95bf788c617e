-- `planner_c::said::put_values` meets its contract: each arm stores the values of its case. Assumes nothing.
use native.Mathlib.Omega.{arith}
use lib.ListN.{length-set}
use Rattle.planner_c.proofs.Values.{puts_one, puts_two, puts_three, puts_no_value}
use Rattle.planner_c.proofs.said.put_values.Goals as goal

pub bounds-values-1 : goal.bounds-values-1
bounds-values-1 c = simp length-set (omega (arith, c.requires))

pub bounds-values-1-in-Parts : goal.bounds-values-1-in-Parts
bounds-values-1-in-Parts c = simp length-set (omega (arith, c.requires))

pub returns-in-Cover : goal.returns-in-Cover
returns-in-Cover c = rw c.in-Cover.is (puts_three c.args.values.now (omega (arith, c.requires)))

pub returns-in-Stop : goal.returns-in-Stop
returns-in-Stop c = rw c.in-Stop.is (puts_one c.args.values.now (omega (arith, c.requires)))

pub returns-in-Parts : goal.returns-in-Parts
returns-in-Parts c = rw c.in-Parts.is (puts_two c.args.values.now (omega (arith, c.requires)))

pub returns-in-Needs : goal.returns-in-Needs
returns-in-Needs c = rw c.in-Needs.is (puts_one c.args.values.now (omega (arith, c.requires)))

pub returns-in_default : goal.returns-in_default
returns-in_default c = puts_no_value c.args.reply c.args.values.now c.in_default.in_default-own.keys5
