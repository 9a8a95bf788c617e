-- The words of the theorems.
-- what the replies mean
pub mod Meaning
