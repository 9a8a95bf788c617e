-- What the contracts of `bunches` say, in reading order.
-- the pieces that arrays hold
pub mod Store
-- one piece more
pub mod PiecePut
-- a child's piece meets the bunch
pub mod Settles
