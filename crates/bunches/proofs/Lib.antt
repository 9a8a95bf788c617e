-- Laws that belong to no one function, in reading order.
-- pieces held in arrays, one more at a time
pub mod PiecesAdded
-- a child's piece meets the bunch, by cases
pub mod PieceSettles
