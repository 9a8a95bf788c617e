-- The replies of document 01, each with its values.
-- Assumes nothing.
use Rattle.std.specs.Prelude.{ℕ, List}
use Rattle.rules.specs.Cover.{Tree}

-- What a trial or a best-limit question is answered.
pub data Reply : Type 0 where
  -- the number of "Who causes which number"
  refused : (number : ℕ) → Reply
  -- accepted: the limit, the weight of the heaviest tree, the cover
  covered : (limit heaviest : ℕ) (trees : List Tree) → Reply
  -- "too low, stop v"
  too_low_stop : (v : ℕ) → Reply
  -- "too low, parts T, yards D", and the parts
  too_low_parts : (T D : ℕ) (parts : List Tree) → Reply
  -- "too low, needs C"
  too_low_needs : (C : ℕ) → Reply
  -- "no cover"
  no_cover : Reply

-- What the check of a filed cover is answered: "yes with the heaviest weight, otherwise a number".
pub data Verdict : Type 0 where
  yes : (heaviest : ℕ) → Verdict
  number : (k : ℕ) → Verdict
