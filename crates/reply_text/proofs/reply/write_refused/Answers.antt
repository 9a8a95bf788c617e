-- `reply_text::reply::write_refused` meets its contract: the line is the text of a refusal.
-- Assumes nothing.
use Rattle.reply_text.specs.Lines.{line}
use Rattle.reply_text.specs.Text.{text_of}
use Rattle.reply_text.proofs.reply.write_refused.Goals as goal

pub returns : goal.returns
unfolding line text_of
returns c = record { text = λ g. c.write_line.ensures }
