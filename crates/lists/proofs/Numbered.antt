-- The values of a function at the numbers below a bound, one more at a time.
-- Assumes nothing.
use Prim.Native.Nat.{ℕ, zero, suc, ◌+◌, ◌<◌}
use mathlib.Core.Path.{◌≡◌, ap, ◌∙◌}
use mathlib.Core.List.{List, [], ◌∷◌, ◌++◌, map, map-append}
use native.Mathlib.Nat.{add-zero, zero-add, add-suc, suc-add}
use native.Mathlib.Numerals.{add-one}
use Rattle.lists.specs.Count.{from, below}
use Rattle.lists.proofs.Below.{of_below}
use Rattle.lists.proofs.Runs.{map_same}

-- one more number, at the end
pub from_snoc : (a n : ℕ) → from a (suc n) ≡ from a n ++ ((a + n) ∷ [])
unfolding from
from_snoc a zero = rw add-zero
from_snoc a (suc n) = rw (add-suc, ← suc-add a n) (ap {B = List ℕ} (λ r. a ∷ r) (from_snoc (suc a) n))

module _ {A : Type 0} (f g : ℕ → A) where
  -- functions that agree below the bound have the same values there
  pub map_below_same : (n : ℕ) → ((i : ℕ) → i < n → g i ≡ f i) → map g (below n) ≡ map f (below n)
  map_below_same n h = map_same (below n) (λ i m. h i (of_below n m))

  -- one more value, at the end
  pub map_below_more : (n : ℕ) (x : A) → ((i : ℕ) → i < n → g i ≡ f i) → g n ≡ x → map g (below (n + 1)) ≡ map f (below n) ++ (x ∷ [])
  unfolding below
  map_below_more n x h q =
      let s : from 0 (n + 1) ≡ from 0 n ++ (n ∷ []) = ap (from 0) (add-one n) ∙ from_snoc 0 n ∙ ap (λ (k : ℕ). from 0 n ++ (k ∷ [])) (zero-add n) in
      ap (map g) s
      ∙ map-append g (from 0 n) (n ∷ [])
      ∙ ap (λ (l : List A). l ++ (g n ∷ [])) (map_below_same n h)
      ∙ ap (λ (y : A). map f (from 0 n) ++ (y ∷ [])) q

-- a run of numbers, and the run behind it
pub from_append : (a m n : ℕ) → from a (m + n) ≡ from a m ++ from (a + m) n
unfolding from
from_append a zero n = rw (zero-add, add-zero)
from_append a (suc m) n = rw (suc-add m n, add-suc, ← suc-add a m) (ap {B = List ℕ} (λ r. a ∷ r) (from_append (suc a) m n))
