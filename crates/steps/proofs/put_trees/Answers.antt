-- `steps::put_trees` meets its contract. The loop's invariant: the steps of the first roots' trees are written. Assumes nothing.
use Rattle.steps.proofs.TreesUnderway.{trees_first, trees_done, root_asked, trees_more}
use borrow.Author.Rules.{rules}
use Rattle.steps.proofs.put_trees.Goals as goal

pub loop-root-init : goal.loop-root-init
loop-root-init c = trees_first c.args.around.bounds.now c.args.around.arcs.now c.args.roots.now c.args.passed.now c.args.steps.now

pub put_node-next-requires : goal.put_node-next-requires
put_node-next-requires c = root_asked c.loop-root.invariant c.requires c.loop-root-test.true

pub loop-root-preserved : goal.loop-root-preserved
loop-root-preserved c = trees_more c.loop-root.invariant c.requires c.loop-root-test.true c.put_node-next.ensures

pub returns : goal.returns
returns c = record { steps_put = trees_done c.loop-root.invariant c.requires c.loop-root-test.false; marks_scratch = search rules }
