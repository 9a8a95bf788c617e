-- `cover::read::entry_tree` meets its contract. Assumes nothing.
use Rattle.cover.proofs.read.entry_tree.Goals as goal

pub returns : goal.returns
returns c = rw c.trees_in.ensures.is at c.field_from.ensures
