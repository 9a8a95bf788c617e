-- Laws that belong to no one function.
-- the values at the front, and the cases that have none
pub mod Values
