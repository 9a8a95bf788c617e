-- Laws that belong to no one function, in reading order.
-- a test of all numbers of a range
pub mod AllNumbers
-- the tests of one entry
pub mod EntryTests
-- the tests of the starts
pub mod StartTests
-- marks, vertex by vertex
pub mod Marking
