-- `edges::arc::arc_edge` meets its contract: it is the definition's expression.
-- Assumes nothing.
use Rattle.edges.specs.Around.{arc_edge}
use borrow.Author.Rules.{rules}
use Rattle.edges.proofs.arc.arc_edge.Goals as goal

pub returns : goal.returns
unfolding arc_edge
returns c = search rules
