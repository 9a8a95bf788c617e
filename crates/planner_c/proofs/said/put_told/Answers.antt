-- `planner_c::said::put_told` meets its contract: the values of the reply's case, and behind a cover's what is known. Assumes nothing.
use native.Mathlib.Omega.{arith}
use lib.ListN.{length-set}
use Rattle.planner_c.proofs.Values.{puts_besides, puts_no_more}
use Rattle.planner_c.proofs.said.put_told.Goals as goal

pub put_values-requires : goal.put_values-requires
put_values-requires c = simp length-set (omega (arith, c.requires))

pub returns-in-Cover : goal.returns-in-Cover
returns-in-Cover c = puts_besides c.args.told c.in-Cover.is (omega (arith, c.requires)) c.bit.ensures c.put_values.ensures

pub returns-in_default : goal.returns-in_default
returns-in_default c = puts_no_more c.args.told c.in_default.not-Cover c.put_values-in_default.ensures
