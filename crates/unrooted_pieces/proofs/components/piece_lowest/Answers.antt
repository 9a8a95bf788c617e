-- `unrooted_pieces::components::piece_lowest` meets its contract: the edges that it lends are the segment. Assumes nothing.
use Rattle.unrooted_pieces.proofs.components.piece_lowest.Goals as goal

pub returns : goal.returns
returns c = rw (c.edges_at.ensures.is, c.wide.ensures.is) at c.lowest_vertex.ensures
