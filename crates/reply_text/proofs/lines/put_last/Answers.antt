-- `reply_text::lines::put_last` meets its contract: the number, and the newline behind it.
-- Assumes nothing.
use Rattle.lists.proofs.Put.{put_behind}
use Rattle.reply_text.specs.Lines.{bytes_of, spaced}
use Rattle.reply_text.proofs.Putting.{room_first, room_then}
use Rattle.reply_text.proofs.LineEnds.{ended_one}
use Rattle.reply_text.proofs.lines.put_last.Goals as goal

pub put_spaced-behind_number-requires : goal.put_spaced-behind_number-requires
put_spaced-behind_number-requires c = room_first (spaced c.args.x) (bytes_of "\n") c.args.at (rw (ended_one c.args.x) at c.requires)

pub put_word-requires : goal.put_word-requires
put_word-requires c = room_then (spaced c.args.x) (bytes_of "\n") (rw (ended_one c.args.x) at c.requires) c.put_spaced-behind_number.ensures

pub returns : goal.returns
returns c = rw (ended_one c.args.x) (put_behind c.put_spaced-behind_number.ensures c.put_word.ensures)
