-- `planner_c::planner_route` meets its contract: what the walk promises, said in numbers. Assumes nothing.
use Rattle.planner_c.proofs.planner_route.Goals as goal

pub returns : goal.returns
returns c =
    record {
      walked = c.walk-walked.result;
      promise = rw c.question_of-question.ensures at c.walk-walked.ensures;
      number = c.number_of.ensures;
      puts = c.put_walk.ensures;
    }
