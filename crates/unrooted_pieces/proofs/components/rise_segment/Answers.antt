-- `unrooted_pieces::components::rise_segment` meets its contract: the part of the array that it lends is the segment. Assumes nothing.
use Rattle.unrooted_pieces.proofs.ComponentPieces.{part_risen}
use Rattle.unrooted_pieces.proofs.components.rise_segment.Goals as goal

pub returns : goal.returns
returns c =
    part_risen c.args.cuts.now c.args.members.now c.args.i c.requires.held c.wide-from.ensures.is c.wide-to.ensures.is
    c.rise_edges.ensures
