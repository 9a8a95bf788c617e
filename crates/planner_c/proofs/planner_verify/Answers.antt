-- `planner_c::planner_verify` meets its contract: what the check promises, said in numbers. Assumes nothing.
use mathlib.Core.Path.{◌∙◌}
use Rattle.filed.specs.Promise.{says}
use Rattle.planner_c.proofs.Values.{verdict_number}
use Rattle.planner_c.proofs.planner_verify.Goals as goal

pub returns : goal.returns
returns c =
    record {
      verdict = c.check-verdict.result;
      promise = rw c.question_of-question.ensures at c.check-verdict.ensures;
      number = c.number_of.ensures ∙ verdict_number (says c.check-verdict.result);
      puts = c.put_heaviest.ensures;
    }
