-- `reply_text::reply::write_parts` meets its contract: the words, the number of parts, and the rest of the line, one behind the other.
-- Assumes nothing.
use native.Mathlib.Omega.{arith}
use Rattle.lists.proofs.Put.{put_behind}
use Rattle.reply_text.specs.Lines.{line}
use Rattle.reply_text.proofs.TextLengths.{spaced_few, last_few}
use Rattle.reply_text.proofs.reply.write_parts.Goals as goal

pub put_spaced-behind_parts-requires : goal.put_spaced-behind_parts-requires
put_spaced-behind_parts-requires c = omega (arith, spaced_few)

pub put_line-requires : goal.put_line-requires
unfolding line
put_line-requires c = omega (arith, spaced_few, last_few)

pub returns : goal.returns
unfolding line
returns c = put_behind c.put_word-behind_word.ensures (put_behind c.put_spaced-behind_parts.ensures c.put_line.ensures)
