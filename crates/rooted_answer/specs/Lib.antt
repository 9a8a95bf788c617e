-- What the contracts of `rooted_answer` say.
-- what answering a rooted trial asks
pub mod Answer
