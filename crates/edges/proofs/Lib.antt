-- Laws that belong to no one function, in reading order.
-- the edges within a limit
pub mod WithinLimit
-- edges marked one after the other
pub mod EdgeMarks
-- the marked edges, taken by rising number
pub mod SweptEdges
-- what an arc holds is read from it again
pub mod Arcs
-- a loop over a list from its end
pub mod Backwards
-- the arcs of edges as items
pub mod ArcItems
-- buckets filled with them hold the edges around each vertex
pub mod FilledAround
