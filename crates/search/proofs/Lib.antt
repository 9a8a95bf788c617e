-- Laws that belong to no one function, in reading order.
-- the steps that every decision counts by
pub mod StepsWritten
-- the search, trial by trial, and where it ends
pub mod SearchLoop
