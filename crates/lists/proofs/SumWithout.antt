-- The sum over a list without one of its numbers: it is less by at least what that number adds.
-- Assumes nothing.
use Prim.Native.Nat.{ℕ, ◌+◌, ◌≤◌}
use mathlib.Core.Path.{refl}
use mathlib.Core.Bool.{not}
use mathlib.Core.List.{List}
use native.Mathlib.Omega.{arith}
use lib.Dec.{eqb}
use borrow.Author.Tests.{eq-eqb}
use Rattle.lists.specs.Lists.{filter, sum_of, without}
use Rattle.lists.specs.Member.{◌∈◌}
use Rattle.lists.proofs.Member.{in_filter}
use Rattle.lists.proofs.Sums.{sum_split, sum_removed}

-- A number of the list and the list without it sum to no more than the list.
pub sum_without : (f : ℕ → ℕ) {x : ℕ} {xs : List ℕ} → x ∈ xs → f x + sum_of f (without x xs) ≤ sum_of f xs
unfolding without
sum_without f {x} {xs} m =
    let taken : x ∈ filter (λ u. not (not (eqb x u))) xs = in_filter (λ u. not (not (eqb x u))) m (rw (eq-eqb x x refl)) in
    omega (arith, sum_split f (λ u. not (eqb x u)) xs, sum_removed f taken)
