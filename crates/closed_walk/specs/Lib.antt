-- What the contracts of `closed_walk` say, in reading order.
-- the entries of one tree
pub mod Run
-- the walk as arrays hold it, and one turn of it
pub mod Turn
-- what the question of the walk promises
pub mod Promise
-- what is left of it where the cover passed the check
pub mod Checked
