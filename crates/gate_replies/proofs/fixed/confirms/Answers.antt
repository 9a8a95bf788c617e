-- `gate_replies::fixed::confirms` meets its contract: the check answers as document 01's rules do.
-- Assumes nothing.
use mathlib.Core.Path.{ap, ◌∙◌}
use Rattle.gate_replies.specs.Fixed.{is_yes, confirmed}
use Rattle.gate_replies.proofs.fixed.confirms.Goals as goal

pub returns : goal.returns
unfolding confirmed
returns c = c.is_yes.ensures ∙ ap (λ v. is_yes v c.args.heaviest) c.check.ensures.rule
