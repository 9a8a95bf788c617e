-- The first n of 256 zeros: no mark, for each of n vertices.
-- Assumes nothing.
use Prim.Native.Nat.{ℕ, zero, suc, ◌≤◌}
use mathlib.Core.Path.{◌≡◌, refl}
use native.Mathlib.Omega.{arith}
use lib.ListN.{length, get_or, take, replicate, length-replicate}
use lib.Seq.{length-take-le}

-- there are n of them
pub zeros_count : (n : ℕ) → n ≤ 256 → length (take n (replicate {A = ℕ} 256 0)) ≡ n
zeros_count n h = length-take-le n (replicate 256 0) (omega (arith, length-replicate {A = ℕ} 256 0))

-- and every one is 0
pub zeros_front : (m n v : ℕ) → get_or {A = ℕ} (take n (replicate m 0)) v 0 ≡ 0
zeros_front m zero v = refl
zeros_front zero (suc n) v = refl
zeros_front (suc m) (suc n) zero = refl
zeros_front (suc m) (suc n) (suc v) = zeros_front m n v
