-- `near::held::near_piece` meets its contract. The loop's invariant: the word has the roots near the start, and those near the ends of the first edges.
-- Assumes nothing.
use Rattle.graph.specs.Bytes.{graph_of}
use Rattle.near.proofs.HeldWords.{Joining}
use Rattle.near.proofs.held.near_piece.Given as goal

abbrev pub invariant-loop-edge : goal.invariant-loop-edge
invariant-loop-edge l = Joining l.g l.near l.start l.edges l.edge-index l.word
