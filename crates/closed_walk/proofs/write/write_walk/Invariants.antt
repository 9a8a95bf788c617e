-- `closed_walk::write::write_walk` meets its contract. The loop's invariant: the arrays say where the walk is after so many turns, and its stops are put.
-- Assumes nothing.
use Rattle.graph.specs.Bytes.{graph_of}
use Rattle.closed_walk.specs.Turn.{tree_of}
use Rattle.closed_walk.proofs.StopsWritten.{WalkPut}
use Rattle.closed_walk.proofs.write.write_walk.Given as goal

abbrev pub invariant-loop-turn : goal.invariant-loop-turn
invariant-loop-turn l = WalkPut l.g (tree_of l.start l.edges) l._turn l.bounds l.arcs l.places l.marks l.way l.depth l.initial.buf l.buf l.initial.next l.next
