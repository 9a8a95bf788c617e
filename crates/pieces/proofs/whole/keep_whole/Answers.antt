-- `pieces::whole::keep_whole` meets its contract: the labels of the start, and the ordered edges kept from them. Assumes nothing.
use Rattle.pieces.proofs.WholeForest.{whole_forest}
use borrow.Author.Rules.{rules}
use Rattle.pieces.proofs.whole.keep_whole.Goals as goal

pub keep_edges-requires : goal.keep_edges-requires
keep_edges-requires c = record { labelable = record { valid = c.requires.keepable.labelable.valid; room = search rules }; room = search rules }

pub returns : goal.returns
returns c = whole_forest c.vertex_count.ensures.is c.start_labels.ensures (rw c.requires.in_order at c.keep_edges.ensures)
