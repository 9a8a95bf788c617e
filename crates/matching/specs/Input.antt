-- The input of the assignment alone: how its bytes are read, and which input is refused (document 01, step 5 and 24).
-- Assumes nothing.
use Rattle.std.specs.Prelude.{ℕ, ◌+◌, ◌*◌, Bool, not, ◌||◌, List, length, get_or, eqb, ltb}
use Rattle.lists.specs.Lists.{any}

-- Root j is allowed to part i: of the bytes, part by part, y to a part, that one is 1.
unfoldable pub allowed_at : List ℕ → ℕ → ℕ → ℕ → Bool
allowed_at bytes y i j = eqb (get_or bytes (i * y + j) 0) 1

-- A byte is above 1.
abbrev pub above_one : ℕ → Bool
above_one b = ltb 1 b

-- 24: "p above 255, y outside 1 to 32, not p × y bytes, a byte above 1, or a buffer below p bytes".
unfoldable pub refused_of : (p y : ℕ) (bytes : List ℕ) (buffer : ℕ) → Bool
refused_of p y bytes buffer =
    ltb 255 p || (ltb y 1 || ltb 32 y) || not (eqb (length bytes) (p * y)) || any above_one bytes || ltb buffer p
