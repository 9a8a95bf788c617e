-- Lists in which each element stands in a relation to all that follow it. Sorted lists, rising lists and lists without
-- repeats are such lists, and one set of laws serves them all.
-- Assumes nothing.
use Prim.Native.Nat.{ℕ}
use mathlib.Core.Path.{refl}
use mathlib.Core.Bool.{Bool, true, false, cond}
use mathlib.Core.List.Memᴰ
use mathlib.Core.List.{List, ◌∷◌, ◌++◌}
use mathlib.Core.Logic.{◌⊎◌, inl, inr}
use native.Mathlib.Omega.{arith}
use Rattle.lists.specs.Lists.{filter}
use Rattle.lists.specs.Member.{◌∈◌}
use Rattle.lists.proofs.Member.{of_filter}
pub use Rattle.lists.specs.InOrder.{InOrder, none, next, Once, Rising}

module _ {ℓ κ} {A : Type ℓ} {R : A → A → Type κ} where
  -- the first element stands in the relation to the others, and these are in order
  pub first_before : {x : A} {xs : List A} → InOrder R (x ∷ xs) → (y : A) → y ∈ xs → R x y
  first_before (next h r) = h

  pub rest_in_order : {x : A} {xs : List A} → InOrder R (x ∷ xs) → InOrder R xs
  rest_in_order (next h r) = r

  -- what a filter keeps stays in order
  pub filter_in_order : (f : A → Bool) {xs : List A} → InOrder R xs → InOrder R (filter f xs)
  unfolding filter
  filter_in_order f none = none
  filter_in_order f (next {x = x} {xs = xs} h r) = go (f x) (filter_in_order f r)
    where
      go : (b : Bool) → InOrder R (filter f xs) → InOrder R (cond b (x ∷ filter f xs) (filter f xs))
      go true s = next (λ y m. h y (of_filter f xs m).0) s
      go false s = s

  -- two lists in order, one after the other
  pub append_in_order : {xs ys : List A} → InOrder R xs → InOrder R ys → ((x y : A) → x ∈ xs → y ∈ ys → R x y) → InOrder R (xs ++ ys)
  append_in_order none s across = s
  append_in_order {ys = ys} (next {x = x} {xs = xs} h r) s across =
      next (λ y m. go y (Memᴰ.append_cases xs m)) (append_in_order r s (λ a b m n. across a b (Memᴰ.tail m) n))
    where
      go : (y : A) → (y ∈ xs) ⊎ (y ∈ ys) → R x y
      go y (inl m) = h y m
      go y (inr m) = across x y (Memᴰ.head refl) m

-- a list in order by one relation is in order by another that follows from it for elements of the list
pub in_order_within {ℓ κ μ} : {A : Type ℓ} {R : A → A → Type κ} {S : A → A → Type μ} {xs : List A} → InOrder R xs → ((x y : A) → x ∈ xs → y ∈ xs → R x y → S x y) → InOrder S xs
in_order_within none w = none
in_order_within (next {x = x} h r) w =
    next (λ y m. w x y (Memᴰ.head refl) (Memᴰ.tail m) (h y m)) (in_order_within r (λ y z m n. w y z (Memᴰ.tail m) (Memᴰ.tail n)))

-- so by one that follows from it for any two elements
pub in_order_weaken {ℓ κ μ} : {A : Type ℓ} {R : A → A → Type κ} {S : A → A → Type μ} → ((x y : A) → R x y → S x y) → {xs : List A} → InOrder R xs → InOrder S xs
in_order_weaken w r = in_order_within r (λ x y m n. w x y)

-- a list in order by two relations is in order by both together
pub in_order_both {ℓ κ μ} : {A : Type ℓ} {R : A → A → Type κ} {S : A → A → Type μ} {xs : List A} → InOrder R xs → InOrder S xs → InOrder (λ (x y : A). R x y × S x y) xs
in_order_both none s = none
in_order_both (next h r) s = next (λ y m. (h y m, first_before s y m)) (in_order_both r (rest_in_order s))

-- a rising list has no repeats
pub rising_once : {xs : List ℕ} → Rising xs → Once xs
rising_once r = in_order_weaken (λ x y h e. omega arith) r
