-- `cover::read::entry_edge` meets its contract. Assumes nothing.
use Rattle.cover.proofs.read.entry_edge.Goals as goal

pub returns : goal.returns
returns c = rw (c.trees_in.ensures.is, c.entries_in.ensures.is) at c.field_from.ensures
