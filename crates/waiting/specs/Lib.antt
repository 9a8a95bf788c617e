-- What the contracts of `waiting` say, in reading order.
-- the last edge of a path, with the vertex before it
pub mod Last
-- who waits, by keys in blocks
pub mod Waiting
-- relaxing one arc
pub mod OneArc
