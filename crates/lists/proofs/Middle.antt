-- A list with one element in its middle, and the list without it.
-- Assumes nothing.
use Prim.Native.Nat.{ℕ, ◌+◌}
use mathlib.Core.Path.{◌≡◌, refl}
use mathlib.Core.List.Memᴰ
use mathlib.Core.List.{List, [], ◌∷◌, ◌++◌}
use mathlib.Core.Logic.{◌⊎◌, inl, inr}
use native.Mathlib.Omega.{arith}
use Rattle.lists.specs.Lists.{sum_of}
use Rattle.lists.specs.Member.{◌∈◌}

module _ {ℓ} {A : Type ℓ} where
  -- the element in the middle stands in the list, and so do the others
  pub middle_in : (xs : List A) (y : A) (ys : List A) → y ∈ (xs ++ y ∷ ys)
  middle_in xs y ys = Memᴰ.append_right xs (Memᴰ.head refl)

  pub around_in : (xs : List A) (y : A) (ys : List A) {x : A} → x ∈ (xs ++ ys) → x ∈ (xs ++ y ∷ ys)
  around_in [] y ys m = Memᴰ.tail m
  around_in (z ∷ xs) y ys (Memᴰ.head e) = Memᴰ.head e
  around_in (z ∷ xs) y ys (Memᴰ.tail m) = Memᴰ.tail (around_in xs y ys m)

  -- whatever stands in the list is in the middle or around it
  pub middle_cases : (xs : List A) (y : A) (ys : List A) {x : A} → x ∈ (xs ++ y ∷ ys) → (x ≡ y) ⊎ (x ∈ (xs ++ ys))
  middle_cases [] y ys (Memᴰ.head e) = inl e
  middle_cases [] y ys (Memᴰ.tail m) = inr m
  middle_cases (z ∷ xs) y ys (Memᴰ.head e) = inr (Memᴰ.head e)
  middle_cases (z ∷ xs) y ys {x} (Memᴰ.tail m) = go (middle_cases xs y ys m)
    where
      go : (x ≡ y) ⊎ (x ∈ (xs ++ ys)) → (x ≡ y) ⊎ (x ∈ (z ∷ xs ++ ys))
      go (inl e) = inl e
      go (inr n) = inr (Memᴰ.tail n)

-- the sum over the list is that of the element in the middle and of those around it
pub sum_middle {ℓ} : {A : Type ℓ} (f : A → ℕ) (xs : List A) (y : A) (ys : List A) → sum_of f (xs ++ y ∷ ys) ≡ f y + sum_of f (xs ++ ys)
unfolding sum_of
sum_middle f [] y ys = refl
sum_middle f (x ∷ xs) y ys = omega (arith, sum_middle f xs y ys)
