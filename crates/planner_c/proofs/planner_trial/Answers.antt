-- `planner_c::planner_trial` meets its contract: what the planner promises, said in numbers. Assumes nothing.
use Rattle.planner_c.proofs.planner_trial.Goals as goal

pub returns : goal.returns
returns c =
    record {
      reply = c.trial-reply.result;
      promise = rw c.kind_of.ensures at c.trial-reply.ensures;
      number = c.number_of.ensures;
      puts = c.put_values.ensures;
    }
