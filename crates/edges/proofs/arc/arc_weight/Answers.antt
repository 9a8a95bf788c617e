-- `edges::arc::arc_weight` meets its contract: it is the definition's expression.
-- Assumes nothing.
use Rattle.edges.specs.Around.{arc_weight}
use borrow.Author.Rules.{rules}
use Rattle.edges.proofs.arc.arc_weight.Goals as goal

pub returns : goal.returns
unfolding arc_weight
returns c = search rules
