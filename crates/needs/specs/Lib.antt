-- What the contracts of `needs` say, in reading order.
-- the forest that is given, at a limit or whole
pub mod Given
-- the lowest vertex of each component
pub mod Roots
-- what the components need at any limit, from the history of merges
pub mod History
