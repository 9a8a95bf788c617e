-- The list vocabulary of all crates, in reading order.
-- numbers below a bound, and how many of them pass a test
pub mod Count
-- filter, any, all, sums, the largest, the first that passes
pub mod Lists
-- standing in a list
pub mod Member
-- lists in which each element stands in a relation to all that follow; rising lists of numbers
pub mod InOrder
-- sorting
pub mod Sort
-- a list put into an array, with everything else as it came
pub mod Put
-- an array lent as scratch
pub mod Scratch
-- several lists in one array, cut by bounds
pub mod Segments
-- items put into buckets by counting and filling
pub mod Buckets
