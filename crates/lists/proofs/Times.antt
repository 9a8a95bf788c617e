-- How often a number stands in a list: it adds up over joined lists, does not change by sorting, and is not 0 exactly where the number
-- stands in the list.
-- Assumes nothing.
use Prim.Native.Nat.{ℕ, zero, suc, ◌+◌, ◌≤◌}
use mathlib.Core.Path.{◌≡◌, refl}
use mathlib.Core.Bool.{Bool, true, false, cond}
use mathlib.Core.List.Memᴰ
use mathlib.Core.List.{List, [], ◌∷◌, ◌++◌, map}
use mathlib.Core.Logic.{dite}
use native.Mathlib.Decide.{ℕ_discrete}
use native.Mathlib.Omega.{arith}
use lib.Dec.{eqb}
use borrow.Author.Tests.{eqb-true, eq-eqb, ne_eqb}
use Rattle.lists.specs.Lists.{flat, sum_of, times}
use Rattle.lists.specs.Member.{◌∈◌}
use Rattle.lists.specs.Sort.{rise}
use Rattle.lists.proofs.InOrder.{none, next, Once}
use Rattle.lists.proofs.Sums.{sum_append}
use Rattle.lists.proofs.SumsAlike.{sum_flat_map}
use Rattle.lists.proofs.Sorting.{sum_rise}

-- joined and sorted lists
pub times_append : (x : ℕ) (xs ys : List ℕ) → times x (xs ++ ys) ≡ times x xs + times x ys
unfolding times
times_append x xs ys = sum_append (λ y. cond (eqb x y) 1 0) xs ys

-- lists made for each element and joined
pub times_flat : {A : Type 0} (x : ℕ) (f : A → List ℕ) (ys : List A) → times x (flat (map f ys)) ≡ sum_of (λ y. times x (f y)) ys
unfolding times
times_flat x f ys = sum_flat_map (λ z. cond (eqb x z) 1 0) f ys

pub times_rise : (x : ℕ) (xs : List ℕ) → times x (rise xs) ≡ times x xs
unfolding times
times_rise x xs = sum_rise (λ y. cond (eqb x y) 1 0) xs

-- a number that stands in the list stands there at least once, and the other way round
pub in_times : {x : ℕ} {xs : List ℕ} → x ∈ xs → 1 ≤ times x xs
unfolding times sum_of
in_times {x} (Memᴰ.head {x = y} e) = rw (eq-eqb x y e) (omega arith)
in_times (Memᴰ.tail m) = omega (arith, in_times m)

pub times_in : (x : ℕ) (xs : List ℕ) → 1 ≤ times x xs → x ∈ xs
unfolding times sum_of
times_in x [] h = absurd (omega arith)
times_in x (y ∷ ys) h = go (eqb x y) refl h (λ r. times_in x ys r)
  where
    go : (b : Bool) → eqb x y ≡ b → 1 ≤ cond b 1 0 + times x ys → (1 ≤ times x ys → x ∈ ys) → x ∈ (y ∷ ys)
    go true e h ih = Memᴰ.head (eqb-true x y e)
    go false e h ih = Memᴰ.tail (ih (omega arith))

-- a number that does not stand in the list stands there no time
pub not_in_times : (x : ℕ) (xs : List ℕ) → (x ∈ xs → ⊥) → times x xs ≡ 0
not_in_times x xs out = go (times x xs) refl
  where
    go : (n : ℕ) → times x xs ≡ n → times x xs ≡ 0
    go zero e = e
    go (suc n) e = absurd (out (times_in x xs (omega arith)))

-- no number, one more number, and a number alone
pub times_none : (x : ℕ) → times x [] ≡ 0
unfolding times sum_of
times_none x = refl

pub times_cons : (x y : ℕ) (ys : List ℕ) → times x (y ∷ ys) ≡ times x (y ∷ []) + times x ys
times_cons x y ys = times_append x (y ∷ []) ys

pub times_one : (x : ℕ) → times x (x ∷ []) ≡ 1
unfolding times sum_of
times_one x = rw (eq-eqb x x refl)

pub times_other : (x y : ℕ) → (x ≡ y → ⊥) → times x (y ∷ []) ≡ 0
unfolding times sum_of
times_other x y n = rw (ne_eqb x y n)

-- in a list without repeats every number stands at most once, and the other way round
pub once_times : {xs : List ℕ} → Once xs → (x : ℕ) → times x xs ≤ 1
once_times none x = omega (arith, times_none x)
once_times (next {x = y} {xs = ys} others rest) x =
    dite (ℕ_discrete x y)
    (λ q. rw q (omega (arith, times_cons y y ys, times_one y, not_in_times y ys (λ m. others y m refl))))
    (λ n. omega (arith, times_cons x y ys, times_other x y n, once_times rest x))

pub times_once : (xs : List ℕ) → ((x : ℕ) → times x xs ≤ 1) → Once xs
times_once [] most = none
times_once (y ∷ ys) most = next (λ z m q. twice (Memᴰ.cast q m)) (times_once ys (λ x. omega (arith, most x, times_cons x y ys)))
  where
    twice : y ∈ ys → ⊥
    twice m = omega (arith, most y, times_cons y y ys, times_one y, in_times m)
