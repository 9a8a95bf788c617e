-- What the contracts of `cover` say, in reading order.
-- trees chosen among those that arrays hold
pub mod Chosen
-- runs of entries
pub mod Runs
