-- Sums against a bound: a value is at most the sum, and values that are all at most b, or all at least b, sum to at most, or at least, b for
-- each element.
-- Assumes nothing.
use Prim.Native.Nat.{ℕ, ◌*◌, ◌≤◌}
use mathlib.Core.Path.{refl, ap}
use mathlib.Core.List.Memᴰ
use mathlib.Core.List.{List, [], ◌∷◌}
use native.Mathlib.Omega.{arith}
use native.Mathlib.Nat.{suc-mul}
use lib.ListN.{length}
use Rattle.lists.specs.Lists.{sum_of}
use Rattle.lists.specs.Member.{◌∈◌}

module _ {ℓ} {A : Type ℓ} (f : A → ℕ) where
  -- each value is at most the sum
  pub sum_each : {x : A} {xs : List A} → x ∈ xs → f x ≤ sum_of f xs
  unfolding sum_of
  sum_each {xs = []} x3 = elim x3 [ ]
  sum_each {xs = x ∷ xs} (Memᴰ.head q) = omega (arith, ap f q)
  sum_each {xs = x ∷ xs} (Memᴰ.tail m) = omega (arith, sum_each m)

  -- values that are all at most b sum to at most b for each element
  pub sum_most : (b : ℕ) (xs : List A) → ((x : A) → x ∈ xs → f x ≤ b) → sum_of f xs ≤ length xs * b
  unfolding sum_of
  sum_most b [] each = omega arith
  sum_most b (x ∷ xs) each = omega (arith, suc-mul (length xs) b, each x (Memᴰ.head refl), sum_most b xs (λ y m. each y (Memᴰ.tail m)))

  -- values that are all at least b sum to at least b for each element
  pub sum_least : (b : ℕ) (xs : List A) → ((x : A) → x ∈ xs → b ≤ f x) → length xs * b ≤ sum_of f xs
  unfolding sum_of
  sum_least b [] each = omega arith
  sum_least b (x ∷ xs) each = omega (arith, suc-mul (length xs) b, each x (Memᴰ.head refl), sum_least b xs (λ y m. each y (Memᴰ.tail m)))
