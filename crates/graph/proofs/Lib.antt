-- Laws that belong to no one function, in reading order.
-- fields past the end of the bytes
pub mod Fields
-- the decoded graph: how many edges it has, and each of them field by field
pub mod Decoded
-- numbers that are tried one after the other
pub mod Faults
-- of a valid graph, the ranges that callers use
pub mod Ranges
-- weights by class
pub mod Adjusted
-- a graph with its weights by class
pub mod Surfaced
-- a view shows its own bytes
pub mod Viewed
