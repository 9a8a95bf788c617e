-- The assignment of parts to roots, in reading order.
-- what an assignment is, and what a deficient set is
pub mod Assignment
-- whether an assignment exists, as a test
pub mod Assignable
-- the bytes of the input, and which input is refused
pub mod Input
-- what `assign` promises
pub mod Promise
-- what the search and the exchange along a path promise
pub mod State
-- what the marking of a set promises
pub mod Marks
