-- Sums over appended lists and over the two halves of a filter, and the sum over a list without repeats whose elements all
-- stand in another list.
-- Assumes nothing.
use Prim.Native.Nat.{ℕ, ◌+◌, ◌≤◌}
use mathlib.Core.Path.{◌≡◌, refl, sym, ap, ◌∙◌}
use mathlib.Core.Bool.{Bool, true, false, cond, not}
use mathlib.Core.List.Memᴰ
use mathlib.Core.List.{List, [], ◌∷◌, ◌++◌}
use native.Mathlib.Omega.{arith}
use Rattle.lists.specs.Lists.{filter, sum_of}
use Rattle.lists.specs.Member.{◌∈◌}
use Rattle.lists.proofs.InOrder.{none, next, Once}

module _ {ℓ} {A : Type ℓ} (f : A → ℕ) where
  -- the sum over two lists, one after the other
  pub sum_append : (xs ys : List A) → sum_of f (xs ++ ys) ≡ sum_of f xs + sum_of f ys
  unfolding sum_of
  sum_append [] ys = omega arith
  sum_append (x ∷ xs) ys = omega (arith, sum_append xs ys)

  -- the sum over a list is that over the elements that pass a test and over those that fail it
  pub sum_split : (t : A → Bool) (xs : List A) → sum_of f xs ≡ sum_of f (filter t xs) + sum_of f (filter (λ x. not (t x)) xs)
  unfolding sum_of filter
  sum_split t [] = omega arith
  sum_split t (x ∷ xs) = go (t x) (sum_split t xs)
    where
      go : (b : Bool) → sum_of f xs ≡ sum_of f (filter t xs) + sum_of f (filter (λ y. not (t y)) xs)
          → f x + sum_of f xs ≡ sum_of f (cond b (x ∷ filter t xs) (filter t xs)) + sum_of f (cond (not b) (x ∷ filter (λ y. not (t y)) xs) (filter (λ y. not (t y)) xs))
      go true ih = omega arith
      go false ih = omega arith

-- the list without the element at one place
pub removed {ℓ} : {A : Type ℓ} {x : A} {xs : List A} → x ∈ xs → List A
removed (Memᴰ.head {xs = xs} e) = xs
removed (Memᴰ.tail {x = y} m) = y ∷ removed m

module _ {ℓ} {A : Type ℓ} where
  -- whatever is another element stays
  pub in_removed : {x y : A} {xs : List A} (m : x ∈ xs) → y ∈ xs → (x ≡ y → ⊥) → y ∈ removed m
  unfolding removed
  in_removed (Memᴰ.head e) (Memᴰ.head d) other = absurd (other (e ∙ sym d))
  in_removed (Memᴰ.head e) (Memᴰ.tail n) other = n
  in_removed (Memᴰ.tail m) (Memᴰ.head d) other = Memᴰ.head d
  in_removed (Memᴰ.tail m) (Memᴰ.tail n) other = Memᴰ.tail (in_removed m n other)

  pub sum_removed : (f : A → ℕ) {x : A} {xs : List A} (m : x ∈ xs) → sum_of f xs ≡ f x + sum_of f (removed m)
  unfolding sum_of removed
  sum_removed f (Memᴰ.head {xs = xs} e) = ap (λ y. f y + sum_of f xs) (sym e)
  sum_removed f (Memᴰ.tail m) = omega (arith, sum_removed f m)

  -- a list without repeats sums to no more than a list in which all its elements stand
  pub sum_within : (f : A → ℕ) {xs ys : List A} → Once xs → ((x : A) → x ∈ xs → x ∈ ys) → sum_of f xs ≤ sum_of f ys
  unfolding sum_of
  sum_within f none sub = omega arith
  sum_within f {ys = ys} (next {x = x} {xs = xs} h r) sub =
      let m : x ∈ ys = sub x (Memᴰ.head refl) in
      let rest : sum_of f xs ≤ sum_of f (removed m) = sum_within f r (λ y n. in_removed m (sub y (Memᴰ.tail n)) (h y n)) in
      omega (arith, sum_removed f m)
