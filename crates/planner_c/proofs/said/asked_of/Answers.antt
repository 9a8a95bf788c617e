-- `planner_c::said::asked_of` meets its contract. Assumes nothing.
use mathlib.Core.Path.{◌≡◌, refl}
use native.Mathlib.Omega.{arith}
use Rattle.planner_c.proofs.Values.{best_asked}
use Rattle.planner_c.proofs.said.asked_of.Goals as goal

pub returns-in-0 : goal.returns-in-0
returns-in-0 c = let is : c.args.asked ≡ 0 = omega (arith, c.in-0.is) in rw is refl

pub returns-in_default : goal.returns-in_default
returns-in_default c = best_asked c.args.asked c.args.limit c.in_default.in_default-own.rest.1
