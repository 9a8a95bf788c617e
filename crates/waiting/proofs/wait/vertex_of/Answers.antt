-- `waiting::wait::vertex_of` meets its contract: it is the definition's expression.
-- Assumes nothing.
use Rattle.waiting.specs.Waiting.{vertex_of}
use borrow.Author.Rules.{rules}
use Rattle.waiting.proofs.wait.vertex_of.Goals as goal

pub returns : goal.returns
unfolding vertex_of
returns c = search rules
