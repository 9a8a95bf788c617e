-- What the contracts of `near` say, in reading order.
-- a set of roots as the bits of a word
pub mod Bits
-- the roots near each vertex
pub mod Vertices
-- the roots near each part
pub mod Parts
-- the roots near each of several trees that stand in arrays
pub mod Held
-- words as bytes
pub mod Rows
