-- Laws that belong to no one function, in reading order.
-- marked edges kept one by one
pub mod MarkedKept
-- the edges kept of a union are its tree's
pub mod UnionEdges
-- the places of the parts, between those of the leftovers
pub mod PartsBetween
-- marking the edges of a list that is known by another name
pub mod TreeMarks
