-- `planner_c::planner_check` meets its contract: what the check promises, said in numbers. Assumes nothing.
use mathlib.Core.Path.{◌∙◌}
use Rattle.filed.specs.Promise.{says}
use Rattle.planner_c.proofs.Values.{verdict_number}
use Rattle.planner_c.proofs.planner_check.Goals as goal

pub returns : goal.returns
returns c =
    record {
      verdict = c.check_cover-verdict.result;
      promise = rw c.kind_of.ensures at c.check_cover-verdict.ensures;
      number = c.number_of.ensures ∙ verdict_number (says c.check_cover-verdict.result);
      puts = c.put_heaviest.ensures;
    }
