-- `planner_c::planner_within` meets its contract: what the planner promises, said in numbers. Assumes nothing.
use Rattle.planner_c.proofs.planner_within.Goals as goal

pub returns : goal.returns
returns c =
    record {
      told = c.ask-told.result;
      promise = rw c.question_of-question.ensures at c.ask-told.ensures;
      number = c.number_told.ensures;
      puts = c.put_told.ensures;
    }
