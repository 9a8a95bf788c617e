-- `reply_text::lines::put_line` meets its contract: the word, and the end of the line behind it.
-- Assumes nothing.
use mathlib.Core.List.{[], ◌∷◌}
use Rattle.lists.proofs.Put.{put_behind}
use Rattle.reply_text.specs.Lines.{ended}
use Rattle.reply_text.proofs.Putting.{room_first, room_then}
use Rattle.reply_text.proofs.lines.put_line.Goals as goal

pub put_word-behind_word-requires : goal.put_word-behind_word-requires
put_word-behind_word-requires c = room_first c.args.word.now (ended (c.args.x ∷ [])) c.args.at c.requires

pub put_last-requires : goal.put_last-requires
put_last-requires c = room_then c.args.word.now (ended (c.args.x ∷ [])) c.requires c.put_word-behind_word.ensures

pub returns : goal.returns
returns c = put_behind c.put_word-behind_word.ensures c.put_last.ensures
