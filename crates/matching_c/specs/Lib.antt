-- The exported assignment.
-- what `matching_assign` promises
pub mod Promise
