-- `waiting::last::last_edge` meets its contract: it is the definition's expression.
-- Assumes nothing.
use Rattle.waiting.specs.Last.{last_edge}
use borrow.Author.Rules.{rules}
use Rattle.waiting.proofs.last.last_edge.Goals as goal

pub returns : goal.returns
unfolding last_edge
returns c = search rules
