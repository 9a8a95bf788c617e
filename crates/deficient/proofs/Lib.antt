-- Laws that belong to no one function, in reading order.
-- chosen pieces laid out, in order, and written
pub mod ChosenLaid
-- the pieces of the marked parts
pub mod MarkedPieces
-- a placed deficient set may be written, and what is written is the answer
pub mod TooLowPlaced
