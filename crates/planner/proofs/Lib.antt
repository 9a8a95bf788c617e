-- Laws that belong to no one function.
-- the questions test by test, and what their replies mean
pub mod Promised
