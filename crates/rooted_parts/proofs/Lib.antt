-- Laws that belong to no one function, in reading order.
-- the pieces of a rooted trial by their numbers
pub mod PiecesByNumber
-- an assignment asked as it must be
pub mod NotRefused
-- the words of the vertices have the roots within the limit
pub mod WordsWithin
-- pieces and assignment together
pub mod PartsAssembled
-- the words of the parts have the roots to which they may go
pub mod PiecesNear
-- rows made of the words, and an assignment by them
pub mod RowsNear
