-- `gate_replies::fixed::is_yes` meets its contract, answer by answer.
-- Assumes nothing.
use mathlib.Core.Path.{sym, ap}
use Rattle.filed.specs.Promise.{says}
use Rattle.gate_replies.specs.Fixed.{is_yes}
use Rattle.gate_replies.proofs.fixed.is_yes.Goals as goal

pub returns-in-Ok : goal.returns-in-Ok
returns-in-Ok c = sym (ap (λ x. is_yes (says x) c.args.heaviest) c.in-Ok.is)

pub returns-in-Err : goal.returns-in-Err
returns-in-Err c = sym (ap (λ x. is_yes (says x) c.args.heaviest) c.in-Err.is)
