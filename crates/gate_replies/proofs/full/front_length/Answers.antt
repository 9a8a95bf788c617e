-- `gate_replies::full::front_length` meets its contract, reply by reply.
-- Assumes nothing.
use mathlib.Core.Path.{sym, ap, ◌∙◌}
use Rattle.gate_replies.specs.Full.{front_length}
use Rattle.gate_replies.proofs.FullReplies.{writes_nothing}
use Rattle.gate_replies.proofs.full.front_length.Goals as goal

pub returns-in-Cover : goal.returns-in-Cover
returns-in-Cover c = c.announced.ensures ∙ sym (ap (λ x. front_length x c.args.buf.now) c.in-Cover.is)

pub returns-in-Parts : goal.returns-in-Parts
returns-in-Parts c = c.announced-in-Parts.ensures ∙ sym (ap (λ x. front_length x c.args.buf.now) c.in-Parts.is)

pub returns-in_default : goal.returns-in_default
returns-in_default c = writes_nothing c.args.reply c.args.buf.now (c.in_default.not-Cover, c.in_default.not-Parts)
