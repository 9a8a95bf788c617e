-- The exported planner, in reading order.
-- the numbers and values that cross to C
pub mod Numbers
-- what the exported functions promise
pub mod Promise
