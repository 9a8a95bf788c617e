-- Shares: where each element passes at most one of several tests, the elements that pass, counted test by test, are no more than there are.
-- Assumes nothing.
use Prim.Native.Nat.{ℕ, ◌+◌, ◌≤◌}
use mathlib.Core.Path.{◌≡◌, refl}
use mathlib.Core.Bool.{Bool, true, false, cond}
use mathlib.Core.List.{List}
use native.Mathlib.Omega.{arith}
use lib.ListN.{length}
use Rattle.lists.specs.Lists.{filter, sum_of}
use Rattle.lists.specs.Member.{◌∈◌}
use Rattle.lists.proofs.InOrder.{InOrder, none, next}
use Rattle.lists.proofs.SumsAlike.{sum_same, sum_no_more, sum_zero, sum_swap, length_sum, length_filter}

-- of a list in which no two elements pass a test, at most one does
pub at_most_one {ℓ} : {A : Type ℓ} (t : A → Bool) {xs : List A} → InOrder (λ (x y : A). t x ≡ true → t y ≡ true → ⊥) xs → sum_of (λ x. cond (t x) 1 0) xs ≤ 1
unfolding sum_of
at_most_one t none = omega arith
at_most_one {A = A} t (next {x = x} {xs = xs} h r) = go (t x) refl (at_most_one t r)
  where
    fails : (b : Bool) → (b ≡ true → ⊥) → ◌≡◌ {A = ℕ} (cond b 1 0) 0
    fails true out = absurd (out refl)
    fails false out = refl

    go : (b : Bool) → t x ≡ b → sum_of (λ y. cond (t y) 1 0) xs ≤ 1 → cond b 1 0 + sum_of (λ y. cond (t y) 1 0) xs ≤ 1
    go true e ih = omega (arith, sum_zero (λ y. cond (t y) 1 0) xs (λ y m. fails (t y) (h y m e)))
    go false e ih = omega arith

-- the elements of ys that pass the test of each x, counted for one x after the other, are no more than those of ys
pub shares {ℓ κ} : {A : Type ℓ} {B : Type κ} (t : A → B → Bool) (xs : List A) (ys : List B)
    → ((y : B) → y ∈ ys → InOrder (λ (x z : A). t x y ≡ true → t z y ≡ true → ⊥) xs) → sum_of (λ x. length (filter (t x) ys)) xs ≤ length ys
shares t xs ys each =
    omega (
      arith,
      sum_same (λ x. length (filter (t x) ys)) (λ x. sum_of (λ y. cond (t x y) 1 0) ys) xs (λ x m. length_filter (t x) ys),
      sum_swap (λ x y. cond (t x y) 1 0) xs ys,
      sum_no_more (λ y. sum_of (λ x. cond (t x y) 1 0) xs) (λ _. 1) ys (λ y m. at_most_one (λ x. t x y) (each y m)),
      length_sum ys,
    )
