-- The measure is the number: `put_number` calls itself with a tenth of it.
-- Assumes nothing.
use Rattle.reply_text.proofs.lines.+put_number.Given as goal

abbrev pub decreases-put_number : goal.decreases-put_number
decreases-put_number l = l.x
