-- What `matching_assign` promises: the number of the answer of `assign`, and all that `assign` promises.
-- Assumes nothing.
use Rattle.std.specs.Prelude.{ℕ, ◌≡◌, List, length}
use Rattle.matching.specs.Promise.{case_of, answer_of, Assigns}

-- The result is the number of the answer that the rules give, and the buffer is as `assign` promises for it.
pub record Numbered (p y : ℕ) (bytes before : List ℕ) (result : ℕ) (after : List ℕ) : Type 0 where
  pub number : result ≡ (case_of p y bytes before after (answer_of p y bytes (length before))).number
  pub promise : Assigns p y bytes before (answer_of p y bytes (length before)) after
