-- The largest value over a list: against a bound and against the elements, with one element more, and over a mapped list.
-- Assumes nothing.
use Prim.Native.Nat.{ℕ, ◌≤◌, max}
use mathlib.Core.Path.{◌≡◌, refl, ap}
use mathlib.Core.List.Memᴰ
use mathlib.Core.List.{List, [], ◌∷◌, ◌++◌, map}
use native.Mathlib.Omega.{arith}
use Rattle.lists.specs.Lists.{largest}
use Rattle.lists.specs.Member.{◌∈◌}

module _ {ℓ} {A : Type ℓ} (f : A → ℕ) where
  -- what no element's value is above, the largest is not above
  pub largest_most : (most : ℕ) (xs : List A) → ((x : A) → x ∈ xs → f x ≤ most) → largest f xs ≤ most
  unfolding largest
  largest_most most [] h = omega arith
  largest_most most (x ∷ xs) h = omega (arith, h x (Memᴰ.head refl), largest_most most xs (λ y m. h y (Memᴰ.tail m)))

  -- no element's value is above the largest
  pub in_largest : {x : A} {xs : List A} → x ∈ xs → f x ≤ largest f xs
  unfolding largest
  in_largest (Memᴰ.head e) = omega (arith, ap f e)
  in_largest (Memᴰ.tail m) = omega (arith, in_largest m)

  -- with one element more
  pub largest_more : (xs : List A) (x : A) → largest f (xs ++ (x ∷ [])) ≡ max (largest f xs) (f x)
  unfolding largest
  largest_more [] x = omega arith
  largest_more (y ∷ xs) x = omega (arith, largest_more xs x)

  -- the largest value over a mapped list is that over the list
  pub largest_map {κ} : {B : Type κ} (h : B → A) (xs : List B) → largest f (map h xs) ≡ largest (λ x. f (h x)) xs
  unfolding largest
  largest_map h [] = refl
  largest_map h (x ∷ xs) = ap (max (f (h x))) (largest_map h xs)
