-- `waiting::last::last_of` meets its contract: it is the definition's expression, and a vertex of two bytes leaves room for the edge.
-- Assumes nothing.
use Rattle.waiting.specs.Last.{last_of}
use borrow.Author.Rules.{rules}
use Rattle.waiting.proofs.last.last_of.Goals as goal

pub returns : goal.returns
unfolding last_of
returns c = search rules
