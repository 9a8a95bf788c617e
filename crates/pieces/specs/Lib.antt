-- What the contracts of `pieces` say, in reading order.
-- the forest of the whole graph, which serves all limits
pub mod Whole
-- trees in order of their keys
pub mod Chosen
-- lists of edges held one after the other
pub mod Pieces
-- the edges around each vertex of a forest
pub mod Arcs
