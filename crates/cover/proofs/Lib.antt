-- Laws that belong to no one function, in reading order.
-- fields put one behind the other
pub mod Writing
-- the bytes of chosen trees
pub mod ChosenBytes
-- chosen trees fit the planner's buffer, and chosen segments are held
pub mod ChosenFit
-- the entries of a tree are one run
pub mod TreeRuns
-- the weights of runs and trees
pub mod Weights
