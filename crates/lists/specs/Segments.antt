-- Several lists that stand one after the other in one array, cut by an array of bounds: list i runs from bound i up to bound i + 1.
-- Assumes nothing.
use Rattle.std.specs.Prelude.{ℕ, ◌+◌, ◌≤◌, ◌<◌, ◌≡◌, List, get_or}
use Rattle.std.proofs.Math.Seq.{slice}

module _ {ℓ} {A : Type ℓ} where
  -- The segment of a number.
  unfoldable pub segment : List ℕ → List A → ℕ → List A
  segment bounds xs i = slice (get_or bounds i 0) (get_or bounds (i + 1) 0) xs

-- The bounds of k segments, which take up the first elements, `used` of them.
pub record Bounded (bounds : List ℕ) (k used : ℕ) : Type 0 where
  pub last : get_or bounds k 0 ≡ used
  pub within : (i : ℕ) → i ≤ k → get_or bounds i 0 ≤ used
  pub rising : (i : ℕ) → i < k → get_or bounds i 0 ≤ get_or bounds (i + 1) 0
