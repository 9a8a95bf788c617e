-- `gate_replies::fixed::put_yes` meets its contract, with either word.
-- Assumes nothing.
use Rattle.gate_replies.specs.Fixed.{yes_word}
use Rattle.gate_replies.proofs.fixed.put_yes.Goals as goal

pub put_word-requires : goal.put_word-requires
unfolding yes_word
put_word-requires c = rw c.if-sure.true at c.requires

pub returns-then-sure : goal.returns-then-sure
unfolding yes_word
returns-then-sure c = rw c.if-sure.true c.put_word.ensures

pub put_word-requires-2 : goal.put_word-requires-2
unfolding yes_word
put_word-requires-2 c = rw c.if-sure.false at c.requires

pub returns : goal.returns
unfolding yes_word
returns c = rw c.if-sure.false c.put_word-2.ensures
