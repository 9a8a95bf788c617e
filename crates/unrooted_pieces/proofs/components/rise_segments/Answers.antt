-- `unrooted_pieces::components::rise_segments` meets its contract. The loop's invariant: the edges of the pieces before i rise, the others are as
-- they came. Assumes nothing.
use Rattle.unrooted_pieces.proofs.ComponentPieces.{risen_more}
use Rattle.unrooted_pieces.proofs.components.rise_segments.Goals as goal

pub loop-i-preserved : goal.loop-i-preserved
loop-i-preserved c = risen_more c.requires c.loop-i.invariant c.loop-i-test.true c.rise_segment.ensures
