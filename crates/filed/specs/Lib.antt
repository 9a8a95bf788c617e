-- What the contracts of `filed` say, in reading order.
-- vertices joined by parents
pub mod Parents
-- one tree and its run of entries
pub mod Trees
-- what the check promises
pub mod Promise
