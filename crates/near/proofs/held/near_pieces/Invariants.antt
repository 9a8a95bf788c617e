-- `near::held::near_pieces` meets its contract. The loop's invariant: the trees of the first i places have their words. Assumes nothing.
use Rattle.graph.specs.Bytes.{graph_of}
use Rattle.near.proofs.HeldWords.{Wording}
use Rattle.near.proofs.held.near_pieces.Given as goal

abbrev pub invariant-loop-i : goal.invariant-loop-i
invariant-loop-i l = Wording l.g l.near l.pieces.starts.now l.pieces.cuts.now l.pieces.members.now l.places l.i l.initial.words l.words
