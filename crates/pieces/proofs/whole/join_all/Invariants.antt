-- `pieces::whole::join_all` meets its contract. The loop's invariant: the edges before e are joined. Assumes nothing.
use Rattle.graph.specs.Bytes.{graph_of}
use Rattle.pieces.proofs.EdgesJoined.{Joining}
use Rattle.pieces.proofs.whole.join_all.Given as goal

abbrev pub invariant-loop-e : goal.invariant-loop-e
invariant-loop-e l = Joining l.g l.edges l.e-index l.initial.label l.label
