-- What the contracts of `rooted_cover` say, in reading order.
-- the tree of one root
pub mod Tree
-- the trees of an accepted trial
pub mod CoverTrees
