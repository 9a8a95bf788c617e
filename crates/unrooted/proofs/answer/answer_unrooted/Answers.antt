-- `unrooted::answer::answer_unrooted` meets its contract: "the sum C" decides between "needs C" and the trees. Assumes nothing.
use mathlib.Core.Path.{sym}
use lib.Seq.{length-take-le}
use Rattle.graph.specs.Bytes.{graph_of}
use Rattle.unrooted.proofs.UnrootedDecided.{too_low, covered}
use Rattle.unrooted.proofs.answer.answer_unrooted.Goals as goal

pub returns-then-k-at : goal.returns-then-k-at
returns-then-k-at c = too_low c.args.g.now c.args.k c.args.limit c.at_limit-at.ensures.needs c.if-k-at.true c.args.buf.now

pub slice_bounds-unrooted_trees-end : goal.slice_bounds-unrooted_trees-end
slice_bounds-unrooted_trees-end c = sym (length-take-le _ _ c.at_limit-at.ensures.few)

pub returns : goal.returns
returns c = covered c.args.g.now c.args.k c.args.limit c.at_limit-at.ensures.needs c.if-k-at.false c.unrooted_trees-w.ensures
