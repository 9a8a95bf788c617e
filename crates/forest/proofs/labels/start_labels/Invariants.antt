-- `forest::labels::start_labels` meets its contract. The loop's invariant: the labels below v are those of the start. Assumes nothing.
use Rattle.rules.specs.Labels.{together}
use Rattle.forest.specs.Arrays.{Agrees}
use Rattle.forest.proofs.labels.start_labels.Given as goal

abbrev pub invariant-loop-v : goal.invariant-loop-v
invariant-loop-v l = Agrees l.v l.x-items (together l.roots)
