-- `split::split_roots` meets its contract. The loop's invariant: the first j roots' trees are grown and split. Assumes nothing.
use lib.ListN.{length}
use Rattle.split.specs.ChildrenWalked.{state_of}
use Rattle.split.specs.ForestSplit.{lent}
use Rattle.split.proofs.RootsSplit.{RootsSplit}
use Rattle.split.proofs.split_roots.Given as goal

abbrev pub invariant-loop-j : goal.invariant-loop-j
invariant-loop-j l = RootsSplit (length l.initial.stack) l.around.bounds.now l.around.arcs.now l.roots l.h (lent l.initial.starts l.initial.cuts l.initial.members l.initial.lefts) l.j (state_of l.passed l.stack l.starts l.cuts l.members l.s) l.lefts
