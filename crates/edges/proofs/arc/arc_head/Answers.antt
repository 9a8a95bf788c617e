-- `edges::arc::arc_head` meets its contract: it is the definition's expression.
-- Assumes nothing.
use Rattle.edges.specs.Around.{arc_head}
use borrow.Author.Rules.{rules}
use Rattle.edges.proofs.arc.arc_head.Goals as goal

pub returns : goal.returns
unfolding arc_head
returns c = search rules
