-- `planner::question::best` meets its contract: it is the search with as many trials as may be asked for. Assumes nothing.
use Rattle.planner.proofs.Promised.{best_promised}
use Rattle.planner.proofs.question.best.Goals as goal

pub returns : goal.returns
returns c = best_promised (rw c.new-question.ensures at c.ask-told.ensures)
