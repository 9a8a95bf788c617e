-- `planner::question::limit_right` meets its contract. Assumes nothing.
use Rattle.planner.proofs.Promised.{limit_tested, limit_none}
use Rattle.planner.proofs.question.limit_right.Goals as goal

pub returns-in-At : goal.returns-in-At
returns-in-At c = rw c.in-At.is (limit_tested _)

pub returns-in-Within : goal.returns-in-Within
returns-in-Within c = rw c.in-Within.is (limit_none _)
