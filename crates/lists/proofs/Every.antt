-- The test `all` says yes exactly where each element passes, `&&` exactly where both do, `||` exactly where one does.
-- Assumes nothing.
use mathlib.Core.Path.{◌≡◌, refl, sym, ap, ◌∙◌}
use mathlib.Core.Bool.{Bool, true, false, ◌&&◌, ◌||◌}
use mathlib.Core.List.Memᴰ
use mathlib.Core.List.{List, [], ◌∷◌}
use mathlib.Core.Logic.{◌⊎◌, inl, inr}
use Rattle.lists.specs.Lists.{all}
use Rattle.lists.specs.Member.{◌∈◌}

-- Two tests that say yes say yes together.
pub both_true : {a b : Bool} → a ≡ true → b ≡ true → (a && b) ≡ true
both_true p q = rw (p, q)

-- Tests that say yes together each say yes.
pub first_true : (a b : Bool) → (a && b) ≡ true → a ≡ true
first_true true b t = refl
first_true false b t = t

pub second_true : (a b : Bool) → (a && b) ≡ true → b ≡ true
second_true true b t = t
second_true false b t = absurd (mathlib.Core.Bool.false≢true t)

-- A test that says no says no with any other.
pub no_and : {a : Bool} (b : Bool) → a ≡ false → (a && b) ≡ false
no_and b p = rw p

pub and_no : (a : Bool) {b : Bool} → b ≡ false → (a && b) ≡ false
and_no true p = p
and_no false p = refl

-- Of two tests that say yes by `||`, one says yes, and the other way round.
pub one_true : (a b : Bool) → (a || b) ≡ true → (a ≡ true) ⊎ (b ≡ true)
one_true true b t = inl refl
one_true false b t = inr t

pub left_true : {a : Bool} (b : Bool) → a ≡ true → (a || b) ≡ true
left_true b p = rw p

pub right_true : (a : Bool) {b : Bool} → b ≡ true → (a || b) ≡ true
right_true true p = refl
right_true false p = p

-- Tests that say no by `||` each say no.
pub first_false : (a b : Bool) → (a || b) ≡ false → a ≡ false
first_false true b t = t
first_false false b t = refl

pub second_false : (a b : Bool) → (a || b) ≡ false → b ≡ false
second_false true b t = absurd (mathlib.Core.Bool.false≢true (sym t))
second_false false b t = t

module _ {ℓ} {A : Type ℓ} (f : A → Bool) where
  -- Where the test says yes, each element passes.
  pub all_each : {x : A} (xs : List A) → all f xs ≡ true → x ∈ xs → f x ≡ true
  unfolding all
  all_each [] t x3 = elim x3 [ ]
  all_each (y ∷ ys) t (Memᴰ.head e) = ap f e ∙ first_true (f y) (all f ys) t
  all_each (y ∷ ys) t (Memᴰ.tail m) = all_each ys (second_true (f y) (all f ys) t) m

  -- Where each element passes, the test says yes.
  pub each_all : (xs : List A) → ((x : A) → x ∈ xs → f x ≡ true) → all f xs ≡ true
  unfolding all
  each_all [] h = refl
  each_all (y ∷ ys) h = both_true (h y (Memᴰ.head refl)) (each_all ys (λ x m. h x (Memᴰ.tail m)))

  -- Where one element does not pass, the test says no.
  pub one_fails : {x : A} {xs : List A} → x ∈ xs → f x ≡ false → all f xs ≡ false
  unfolding all
  one_fails (Memᴰ.head e) q = no_and _ (ap f (sym e) ∙ q)
  one_fails (Memᴰ.tail {x = y} m) q = and_no (f y) (one_fails m q)
