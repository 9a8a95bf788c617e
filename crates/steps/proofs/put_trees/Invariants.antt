-- `steps::put_trees` meets its contract. The loop's invariant: the steps of the first roots' trees are written. Assumes nothing.
use Rattle.steps.proofs.TreesUnderway.{TreesUnderway}
use Rattle.steps.proofs.put_trees.Given as goal

abbrev pub invariant-loop-root : goal.invariant-loop-root
invariant-loop-root l = TreesUnderway l.around.bounds.now l.around.arcs.now l.roots l.initial.passed l.initial.steps l.root-index l.passed l.steps l.next
