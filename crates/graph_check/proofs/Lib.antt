-- Laws that belong to no one function, in reading order.
-- the check, test by test
pub mod Steps
-- the check says yes exactly to graphs
pub mod Exactly
