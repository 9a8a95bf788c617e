-- `forest::labels::merge_labels` meets its contract. The loop's invariant: before x the labels are merged, and from x on they are as they
-- were. Assumes nothing.
use Rattle.forest.proofs.Labelling.{Merging}
use Rattle.forest.proofs.labels.merge_labels.Given as goal

abbrev pub invariant-loop-x : goal.invariant-loop-x
invariant-loop-x l = Merging l.n l.u l.v l.x-index l.fn.label l.x-items
