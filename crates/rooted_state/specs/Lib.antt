-- What arrays hold in a trial by crews with roots, in reading order.
-- what is prepared once a question, and what a trial at a limit asks of it
pub mod Prepared
-- the parts of a trial, placed
pub mod Placed
