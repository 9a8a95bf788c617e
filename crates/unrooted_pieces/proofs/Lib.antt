-- Laws that belong to no one function, in reading order.
-- the lowest vertex of a tree, edge by edge; edges that rise, piece by piece
pub mod ComponentPieces
-- the numbers of an answer's trees among the pieces, and what stands at them
pub mod TreesPlaced
