-- The roots near each part as bytes, as the assignment reads them.
-- Assumes nothing.
use Rattle.std.specs.Prelude.{ℕ, ◌+◌, ◌*◌, ◌<◌, ◌≡◌, cond, List, length, get_or}
use Rattle.lists.specs.Put.{OnlyFirst}
use Rattle.near.specs.Bits.{bit_at}

-- A row of bytes, one for each root: 1 where its bit is set, and otherwise 0.
pub record RowPut (bits : ℕ) (before after : List ℕ) : Type 0 where
  pub size : length after ≡ length before
  pub each : (j : ℕ) → j < length before → get_or after j 0 ≡ cond (bit_at j bits) 1 0

-- A row of k bytes for each part, one row after the other; what stands behind the rows is as it came.
pub record RowsPut (k : ℕ) (parts before after : List ℕ) : Type 0 where
  pub size : length after ≡ length before
  pub each : (i j : ℕ) → i < length parts → j < k → get_or after (i * k + j) 0 ≡ cond (bit_at j (get_or parts i 0)) 1 0
  pub rest : OnlyFirst (length parts * k) before after
