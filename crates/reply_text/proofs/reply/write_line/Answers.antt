-- `reply_text::reply::write_line` meets its contract: a number has at most 20 digits.
-- Assumes nothing.
use mathlib.Core.List.{[], ◌∷◌}
use native.Mathlib.Omega.{arith}
use lib.ListN.{length-append}
use Rattle.reply_text.specs.Lines.{ended}
use Rattle.reply_text.proofs.TextLengths.{last_few}
use Rattle.reply_text.proofs.reply.write_line.Goals as goal

pub put_line-requires : goal.put_line-requires
put_line-requires c = omega (arith, last_few c.args.x (omega (arith, c.ranges.x)), length-append c.args.word.now (ended (c.args.x ∷ [])))
