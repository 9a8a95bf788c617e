-- What the contracts of `graph_check` say, in reading order.
-- the check of the bytes, with its numbers
pub mod Check
