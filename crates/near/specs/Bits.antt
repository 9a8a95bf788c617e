-- A set of numbers as the bits of a word.
-- Assumes nothing.
use Rattle.std.specs.Prelude.{ℕ, ◌/◌, ◌%◌, ◌^◌, Bool, eqb}

-- Bit j is set.
unfoldable pub bit_at : ℕ → ℕ → Bool
bit_at j bits = eqb (bits / 2 ^ j % 2) 1
