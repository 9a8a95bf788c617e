-- `unrooted_pieces::components::rise_segments` meets its contract. The loop's invariant: the edges of the pieces before i rise, the others are as
-- they came. Assumes nothing.
use Rattle.unrooted_pieces.proofs.ComponentPieces.{RisenUpTo}
use Rattle.unrooted_pieces.proofs.components.rise_segments.Given as goal

abbrev pub invariant-loop-i : goal.invariant-loop-i
invariant-loop-i l = RisenUpTo l.cuts l.k l.i l.initial.members l.members
