-- `forest::keep::keep_edges` meets its contract. The loop's invariant: the edges before e are taken. Assumes nothing.
use Rattle.graph.specs.Bytes.{graph_of}
use Rattle.forest.proofs.KeptOneByOne.{Taking}
use Rattle.forest.proofs.keep.keep_edges.Given as goal

abbrev pub invariant-loop-e : goal.invariant-loop-e
invariant-loop-e l = Taking l.g l.edges l.e-index l.initial.label l.label l.initial.kept l.kept l.r
