-- `waiting::last::vertex_before` meets its contract: it is the definition's expression.
-- Assumes nothing.
use Rattle.waiting.specs.Last.{vertex_before}
use borrow.Author.Rules.{rules}
use Rattle.waiting.proofs.last.vertex_before.Goals as goal

pub returns : goal.returns
unfolding vertex_before
returns c = search rules
