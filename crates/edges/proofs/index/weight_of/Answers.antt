-- `edges::index::weight_of` meets its contract: it reads the weight of the edge of that number. Assumes nothing.
use Rattle.edges.proofs.index.weight_of.Goals as goal

pub returns : goal.returns
returns c = rw c.wide.ensures.is at c.weight.ensures
