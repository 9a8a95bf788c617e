-- `planner_c::planner_walk` meets its contract: what the walk promises, said in numbers. Assumes nothing.
use Rattle.planner_c.proofs.planner_walk.Goals as goal

pub returns : goal.returns
returns c =
    record {
      walked = c.walk-walked.result;
      promise = rw (c.new-question.ensures, c.kind_of.ensures) at c.walk-walked.ensures;
      number = c.number_of.ensures;
      puts = c.put_walk.ensures;
    }
