-- Lists in which every number stands equally often have the same sums: the first number of one is taken out of the other.
-- Assumes nothing.
use Prim.Native.Nat.{ℕ, ◌+◌}
use mathlib.Core.Path.{◌≡◌, refl}
use mathlib.Core.Bool.{cond}
use mathlib.Core.List.{List, [], ◌∷◌}
use native.Mathlib.Omega.{arith}
use lib.Dec.{eqb}
use Rattle.lists.specs.Lists.{sum_of, times}
use Rattle.lists.specs.Member.{◌∈◌}
use Rattle.lists.proofs.Sums.{removed, sum_removed}
use Rattle.lists.proofs.Times.{times_none, times_cons, times_one, times_in}

-- every number stands in a list as often as at one place and in the list without that place
times_removed : (z : ℕ) {x : ℕ} {xs : List ℕ} (m : x ∈ xs) → times z xs ≡ times z (x ∷ []) + times z (removed m)
unfolding times sum_of
times_removed z {x} m = omega (arith, sum_removed (λ y. cond (eqb z y) 1 0) m)

-- every number stands in both equally often, so any value sums up to the same
pub same_sum : (f : ℕ → ℕ) (xs ys : List ℕ) → ((x : ℕ) → times x xs ≡ times x ys) → sum_of f xs ≡ sum_of f ys
unfolding sum_of
same_sum f [] [] same = refl
same_sum f [] (y ∷ ys) same = absurd (omega (arith, same y, times_none y, times_cons y y ys, times_one y))
same_sum f (x ∷ xs) ys same =
    let m : x ∈ ys = times_in x ys (omega (arith, same x, times_cons x x xs, times_one x)) in
    omega (arith, sum_removed f m, same_sum f xs (removed m) (λ z. omega (arith, same z, times_cons z x xs, times_removed z m)))
