-- What the contracts of `forest` say, in reading order.
-- arrays that hold a label of each vertex
pub mod Arrays
-- labels at the start, and merged
pub mod Labelled
-- edges kept one after the other
pub mod Keeping
-- the lowest vertex joined to no root, and the lowest of each component
pub mod Lowest
-- vertices marked
pub mod Marks
