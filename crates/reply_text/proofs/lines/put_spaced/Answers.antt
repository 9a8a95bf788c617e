-- `reply_text::lines::put_spaced` meets its contract: the space, and the number behind it.
-- Assumes nothing.
use Rattle.lists.proofs.Put.{put_behind}
use Rattle.reply_text.specs.Lines.{bytes_of, digits, spaced}
use Rattle.reply_text.proofs.Putting.{room_first, room_then}
use Rattle.reply_text.proofs.lines.put_spaced.Goals as goal

pub put_word-behind_space-requires : goal.put_word-behind_space-requires
unfolding spaced
put_word-behind_space-requires c = room_first (bytes_of " ") (digits c.args.x) c.args.at c.requires

pub put_number-requires : goal.put_number-requires
unfolding spaced
put_number-requires c = room_then (bytes_of " ") (digits c.args.x) c.requires c.put_word-behind_space.ensures

pub returns : goal.returns
unfolding spaced
returns c = put_behind c.put_word-behind_space.ensures c.put_number.ensures
