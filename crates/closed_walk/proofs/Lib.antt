-- Laws that belong to no one function, in reading order.
-- the entries of one tree
pub mod OneRun
-- the next edge as the arrays tell it
pub mod NextFound
-- the arrays after one turn
pub mod NextTurn
-- the stops written, turn by turn
pub mod StopsWritten
-- the walk along one tree of a cover
pub mod TreeWalks
-- what the question promises
pub mod Promised
