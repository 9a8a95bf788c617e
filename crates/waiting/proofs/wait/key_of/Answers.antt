-- `waiting::wait::key_of` meets its contract: it is the definition's expression.
-- Assumes nothing.
use Rattle.waiting.specs.Waiting.{key_of}
use borrow.Author.Rules.{rules}
use Rattle.waiting.proofs.wait.key_of.Goals as goal

pub returns : goal.returns
unfolding key_of
returns c = search rules
