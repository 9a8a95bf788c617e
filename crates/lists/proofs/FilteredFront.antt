-- A test that the first elements of a list pass, and no other: what the filter keeps is the front of the list.
-- Assumes nothing.
use Prim.Native.Nat.{ℕ, zero, suc, ◌≤◌, ◌<◌}
use mathlib.Core.Path.{◌≡◌, refl, ap}
use mathlib.Core.Bool.{Bool, true, false}
use mathlib.Core.List.{List, [], ◌∷◌}
use native.Mathlib.Omega.{arith}
use lib.ListN.{length, get_or, take}
use Rattle.lists.specs.Lists.{filter}

module _ {ℓ} {A : Type ℓ} (d : A) (f : A → Bool) where
  pub filter_front : (xs : List A) (r : ℕ) → ((i : ℕ) → i < r → f (get_or xs i d) ≡ true)
      → ((i : ℕ) → r ≤ i → i < length xs → f (get_or xs i d) ≡ false) → filter f xs ≡ take r xs
  unfolding filter
  filter_front [] zero front others = refl
  filter_front [] (suc r) front others = refl
  filter_front (x ∷ xs) zero front others =
      rw (others 0 (omega arith) (omega arith)) (filter_front xs zero (λ i h. absurd (omega arith)) (λ i h l. others (suc i) (omega arith) (omega arith)))
  filter_front (x ∷ xs) (suc r) front others =
      rw (front 0 (omega arith))
      (ap (λ l. x ∷ l) (filter_front xs r (λ i h. front (suc i) (omega arith)) (λ i h l. others (suc i) (omega arith) (omega arith))))
