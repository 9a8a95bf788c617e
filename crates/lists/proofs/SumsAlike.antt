-- Sums compared value by value: of equal values, of values no larger, of two values added, of a mapped list, of sums in either order.
-- Lengths are such sums: of a list, of a joined one, of what passes a test, of a list without one place.
-- Assumes nothing.
use Prim.Native.Nat.{ℕ, ◌+◌, ◌≤◌}
use mathlib.Core.Path.{◌≡◌, refl, sym, ◌∙◌}
use mathlib.Core.Bool.{Bool, true, false, cond}
use mathlib.Core.List.Memᴰ
use mathlib.Core.List.{List, [], ◌∷◌, map}
use native.Mathlib.Omega.{arith}
use lib.ListN.{length}
use Rattle.lists.specs.Lists.{filter, flat, sum_of}
use Rattle.lists.specs.Member.{◌∈◌}
use Rattle.lists.proofs.Sums.{sum_append, removed, sum_removed}

module _ {ℓ} {A : Type ℓ} where
  -- equal values have equal sums
  pub sum_same : (f h : A → ℕ) (xs : List A) → ((x : A) → x ∈ xs → f x ≡ h x) → sum_of f xs ≡ sum_of h xs
  unfolding sum_of
  sum_same f h [] each = refl
  sum_same f h (x ∷ xs) each = omega (arith, each x (Memᴰ.head refl), sum_same f h xs (λ y m. each y (Memᴰ.tail m)))

  -- values no larger have a sum no larger
  pub sum_no_more : (f h : A → ℕ) (xs : List A) → ((x : A) → x ∈ xs → f x ≤ h x) → sum_of f xs ≤ sum_of h xs
  unfolding sum_of
  sum_no_more f h [] each = omega arith
  sum_no_more f h (x ∷ xs) each = omega (arith, each x (Memᴰ.head refl), sum_no_more f h xs (λ y m. each y (Memᴰ.tail m)))

  -- the sum of two values added
  pub sum_plus : (f h : A → ℕ) (xs : List A) → sum_of (λ x. f x + h x) xs ≡ sum_of f xs + sum_of h xs
  unfolding sum_of
  sum_plus f h [] = omega arith
  sum_plus f h (x ∷ xs) = omega (arith, sum_plus f h xs)

  -- values that are all 0 sum to 0
  pub sum_zero : (f : A → ℕ) (xs : List A) → ((x : A) → x ∈ xs → f x ≡ 0) → sum_of f xs ≡ 0
  unfolding sum_of
  sum_zero f [] each = refl
  sum_zero f (x ∷ xs) each = omega (arith, each x (Memᴰ.head refl), sum_zero f xs (λ y m. each y (Memᴰ.tail m)))

  -- a list has as many elements as ones sum to
  pub length_sum : (xs : List A) → length xs ≡ sum_of (λ _. 1) xs
  unfolding sum_of
  length_sum [] = refl
  length_sum (x ∷ xs) = omega (arith, length_sum xs)

  -- without one place it has one fewer
  pub length_removed : {x : A} {xs : List A} (m : x ∈ xs) → length xs ≡ 1 + length (removed m)
  length_removed {xs = xs} m = omega (arith, length_sum xs, length_sum (removed m), sum_removed (λ _. 1) m)

  -- as many elements pass a test as there are ones for those that do
  pub length_filter : (t : A → Bool) (xs : List A) → length (filter t xs) ≡ sum_of (λ x. cond (t x) 1 0) xs
  unfolding filter sum_of
  length_filter t [] = refl
  length_filter t (x ∷ xs) = go (t x) (length_filter t xs)
    where
      go : (b : Bool) → length (filter t xs) ≡ sum_of (λ y. cond (t y) 1 0) xs → length (cond b (x ∷ filter t xs) (filter t xs)) ≡ cond b 1 0 + sum_of (λ y. cond (t y) 1 0) xs
      go true ih = omega arith
      go false ih = omega arith

module _ {ℓ κ} {A : Type ℓ} {B : Type κ} where
  -- the sum over a mapped list
  pub sum_of_map : (f : B → ℕ) (h : A → B) (xs : List A) → sum_of f (map h xs) ≡ sum_of (λ x. f (h x)) xs
  unfolding sum_of
  sum_of_map f h [] = refl
  sum_of_map f h (x ∷ xs) = omega (arith, sum_of_map f h xs)

  -- the sum over lists made for each element
  pub sum_flat_map : (f : B → ℕ) (h : A → List B) (xs : List A) → sum_of f (flat (map h xs)) ≡ sum_of (λ x. sum_of f (h x)) xs
  unfolding sum_of flat
  sum_flat_map f h [] = refl
  sum_flat_map f h (x ∷ xs) = omega (arith, sum_append f (h x) (flat (map h xs)), sum_flat_map f h xs)

  -- lists made for each element have together as many elements as their lengths sum to
  pub length_flat_map : (f : A → List B) (xs : List A) → length (flat (map f xs)) ≡ sum_of (λ x. length (f x)) xs
  length_flat_map f xs =
      length_sum (flat (map f xs)) ∙ sum_flat_map (λ _. 1) f xs ∙ sum_same (λ x. sum_of (λ _. 1) (f x)) (λ x. length (f x)) xs (λ x m. sym (length_sum (f x)))

  -- sums of sums, taken in either order
  pub sum_swap : (f : A → B → ℕ) (xs : List A) (ys : List B) → sum_of (λ x. sum_of (f x) ys) xs ≡ sum_of (λ y. sum_of (λ x. f x y) xs) ys
  unfolding sum_of
  sum_swap f [] ys = sym (sum_zero (λ _. 0) ys (λ y m. refl))
  sum_swap f (x ∷ xs) ys = omega (arith, sum_swap f xs ys, sum_plus (f x) (λ y. sum_of (λ z. f z y) xs) ys)
