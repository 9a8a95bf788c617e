-- The test `any_below` says yes exactly where some number below the bound passes, and no where none does.
-- Assumes nothing.
use Prim.Native.Nat.{ℕ, zero, suc, ◌<◌}
use mathlib.Core.Path.{◌≡◌, refl, ap, sym, ◌∙◌}
use mathlib.Core.Bool.{Bool, true, false, ◌||◌, false≢true}
use mathlib.Core.Logic.{dite}
use native.Mathlib.Decide.{ℕ_discrete}
use native.Mathlib.Omega.{arith}
use Rattle.lists.specs.Count.{any_below}
use Rattle.lists.proofs.Every.{right_true}

module _ (f : ℕ → Bool) where
  -- some number below n passes, where the test says so, and the other way round
  pub any_below_found : (n : ℕ) → any_below n f ≡ true → (k : ℕ) × (k < n) × (f k ≡ true)
  unfolding any_below
  any_below_found zero t = absurd (false≢true t)
  any_below_found (suc n) t = go (f n) refl t (λ r. any_below_found n r)
    where
      go : (b : Bool) → f n ≡ b → (b || any_below n f) ≡ true → (any_below n f ≡ true → (k : ℕ) × (k < n) × (f k ≡ true)) → (k : ℕ) × (k < suc n) × (f k ≡ true)
      go true e t ih = (n, omega arith, e)
      go false e t ih = let (k, h, p) = ih t in (k, omega arith, p)

  pub found_any_below : (n : ℕ) {k : ℕ} → k < n → f k ≡ true → any_below n f ≡ true
  unfolding any_below
  found_any_below zero h p = absurd (omega arith)
  found_any_below (suc n) {k} h p =
      dite (ℕ_discrete k n) (λ q. rw (ap f (sym q) ∙ p)) (λ d. right_true (f n) (found_any_below n {k = k} (omega arith) p))

  -- no number below n passes
  pub none_any_below : (n : ℕ) → ((k : ℕ) → k < n → f k ≡ false) → any_below n f ≡ false
  unfolding any_below
  none_any_below zero each = refl
  none_any_below (suc n) each = rw (each n (omega arith)) (none_any_below n (λ k h. each k (omega arith)))
