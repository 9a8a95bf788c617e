-- What the contracts of `unions` say, in reading order.
-- the places of the parts among the pieces
pub mod Places
-- the edges of a union that are kept
pub mod Union
-- the parts of a deficient set
pub mod Deficient
