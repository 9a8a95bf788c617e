-- What the contracts of `split` say, in reading order.
-- what the rules make of a forest's trees, as one list of pieces
pub mod Pieces
-- growing and splitting what hangs below a vertex, over arcs
pub mod SplitBelow
-- what the node walk and the child-list walk do
pub mod ChildrenWalked
-- what the public function promises
pub mod ForestSplit
