-- What the contracts of `answers` say.
-- what is asked of crews of either kind
pub mod Answers
