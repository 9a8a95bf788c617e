-- `planner_c::planner_best` meets its contract: what the planner promises, said in numbers. Assumes nothing.
use Rattle.planner_c.proofs.planner_best.Goals as goal

pub returns : goal.returns
returns c =
    record {
      reply = c.best-reply.result;
      promise = rw c.kind_of.ensures at c.best-reply.ensures;
      number = c.number_of.ensures;
      puts = c.put_values.ensures;
    }
