-- `planner_c::said::kind_of` meets its contract. Assumes nothing.
use Rattle.planner_c.proofs.Values.{unrooted}
use Rattle.planner_c.proofs.said.kind_of.Goals as goal

pub returns-in_default : goal.returns-in_default
returns-in_default c = unrooted c.args.kind c.in_default.in_default-own.rest.1
