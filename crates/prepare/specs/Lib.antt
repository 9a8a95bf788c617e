-- What the contracts of `prepare` say, in reading order.
-- what is prepared once a question, step by step
pub mod Preparing
-- crews of either kind, and what they read
pub mod Crews
