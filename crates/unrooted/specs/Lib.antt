-- What the contracts of `unrooted` say, in reading order.
-- the trial at a limit for crews without roots
pub mod Unrooted
-- the answer and the decision, from the whole forest
pub mod Answer
