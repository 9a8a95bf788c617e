-- Where the entries of one tree begin.
-- Assumes nothing.
use Rattle.std.specs.Prelude.{ℕ, ◌≤◌, ◌<◌, List}
use Rattle.rules.specs.CoverBytes.{entries_in, entry_tree}

-- All entries before r name lower trees than j; the entry at r, where there is one, does not.
pub record FirstOf (c : List ℕ) (j r : ℕ) : Type 0 where
  pub inside : r ≤ entries_in c
  pub lower : (i : ℕ) → i < r → entry_tree c i < j
  pub not_lower : r < entries_in c → j ≤ entry_tree c r
