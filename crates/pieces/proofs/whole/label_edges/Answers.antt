-- `pieces::whole::label_edges` meets its contract: the labels of the start, and the edges joined from them. Assumes nothing.
use Rattle.pieces.proofs.WholeForest.{edges_labelled}
use Rattle.pieces.proofs.whole.label_edges.Goals as goal

pub returns : goal.returns
returns c = edges_labelled c.vertex_count.ensures.is c.start_labels.ensures c.join_all.ensures
