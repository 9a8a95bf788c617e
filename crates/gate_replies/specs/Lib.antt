-- Replies as the program of the gate prints them, in reading order.
-- numbers in several bytes
pub mod Fields
-- a reply in full, as bytes
pub mod Full
-- what the rules fix of a reply, as text
pub mod Fixed
