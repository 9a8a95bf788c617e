-- A test over all numbers below a bound, as a loop finds it out: each passes, or one does not.
-- Assumes nothing.
use Prim.Native.Nat.{ℕ, ◌<◌}
use mathlib.Core.Path.{◌≡◌}
use mathlib.Core.Bool.{Bool, true, false}
use Rattle.lists.specs.Count.{below}
use Rattle.lists.specs.Lists.{all}
use Rattle.lists.proofs.Every.{all_each, each_all, one_fails}
use Rattle.lists.proofs.Below.{of_below, in_below}

module _ (f : ℕ → Bool) (n : ℕ) where
  -- Each number below the bound passes.
  pub all_below : ((k : ℕ) → k < n → f k ≡ true) → all f (below n) ≡ true
  all_below h = each_all f (below n) (λ k m. h k (of_below n m))

  -- So each does where the test says yes.
  pub each_below : all f (below n) ≡ true → (k : ℕ) → k < n → f k ≡ true
  each_below t k h = all_each f (below n) t (in_below n h)

  -- One does not.
  pub not_below : (k : ℕ) → k < n → f k ≡ false → all f (below n) ≡ false
  not_below k h q = one_fails f (in_below n h) q
