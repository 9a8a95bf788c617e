-- The list `below n` holds the numbers below n, rising, and nothing else.
-- Assumes nothing.
use Prim.Native.Nat.{ℕ, zero, suc, ◌+◌, ◌≤◌, ◌<◌}
use mathlib.Core.Path.{◌≡◌}
use mathlib.Core.List.Memᴰ
use mathlib.Core.List.{◌∷◌}
use mathlib.Core.Logic.{◌⊎◌, inl, inr, dite}
use native.Mathlib.Decide.{ℕ_discrete}
use native.Mathlib.Omega.{arith}
use Rattle.lists.specs.Count.{from, below}
use Rattle.lists.specs.Member.{◌∈◌}
use Rattle.lists.specs.InOrder.{Rising, none, next}

-- two numbers are equal or not: `ℕ_discrete`, as a sum
pub equal_or_not : (m n : ℕ) → (m ≡ n) ⊎ (m ≡ n → ⊥)
equal_or_not m n = dite (ℕ_discrete m n) inl inr

-- the numbers from a on, n of them, are those from a to a + n - 1
pub of_from : (a n : ℕ) {x : ℕ} → x ∈ from a n → (a ≤ x) × (x < a + n)
unfolding from
of_from a zero m = absurd (Memᴰ.not-nil m)
of_from a (suc n) {x} m = go (λ r. of_from (suc a) n r) m
  where
    go : (x ∈ from (suc a) n → (suc a ≤ x) × (x < suc a + n)) → x ∈ (a ∷ from (suc a) n) → (a ≤ x) × (x < a + suc n)
    go ih (Memᴰ.head e) = omega arith
    go ih (Memᴰ.tail r) = let b = ih r in omega arith

pub in_from : (a n : ℕ) {x : ℕ} → a ≤ x → x < a + n → x ∈ from a n
unfolding from
in_from a zero h l = absurd (omega arith)
in_from a (suc n) {x} h l =
    dite (ℕ_discrete x a) (λ e. Memᴰ.head e) (λ d. Memᴰ.tail (in_from (suc a) n {x = x} (omega arith) (omega arith)))

-- what stands in `below n` is below n, and the other way round
pub of_below : (n : ℕ) {x : ℕ} → x ∈ below n → x < n
unfolding below
of_below n m = let b = of_from 0 n m in omega arith

pub in_below : (n : ℕ) {x : ℕ} → x < n → x ∈ below n
unfolding below
in_below n {x} h = in_from 0 n (omega arith) (omega arith)

pub from_rising : (a n : ℕ) → Rising (from a n)
unfolding from
from_rising a zero = none
from_rising a (suc n) = next (λ y m. (of_from (suc a) n m).0) (from_rising (suc a) n)

-- `below n` rises
pub below_rising : (n : ℕ) → Rising (below n)
unfolding below
below_rising n = from_rising 0 n
