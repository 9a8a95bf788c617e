-- What the contracts of `search` say, in reading order.
-- what a decision at a limit takes
pub mod Decision
-- the search for the best limit
pub mod Searching
