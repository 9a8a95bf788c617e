-- The text of replies (document 01, "The program `rounds`"), in reading order.
-- words, numbers and lines as bytes
pub mod Lines
-- the text of each reply
pub mod Text
-- document 01's example, and a line of each other reply
pub mod Examples
-- what the functions that write trees ask and promise
pub mod Trees
-- what the writing of a reply asks and promises
pub mod Replies
