-- A deficient set admits no assignment: its parts, sent to their roots, would be no more than the roots allowed to them.
-- Assumes nothing.
use Prim.Native.Nat.{ℕ}
use mathlib.Core.Bool.{Bool, ◌&&◌}
use mathlib.Core.List.{List}
use native.Mathlib.Omega.{arith}
use lib.ListN.{get_or}
use Rattle.lists.specs.Count.{any_below}
use Rattle.lists.proofs.Every.{both_true}
use Rattle.lists.proofs.AnyBelow.{found_any_below}
use Rattle.lists.proofs.Pigeonhole.{count_into}
use Rattle.matching.specs.Assignment.{IsAssignment, IsDeficient, marked}

pub deficient_none : {p y : ℕ} {allowed : ℕ → ℕ → Bool} {marks roots : List ℕ} → IsDeficient p y allowed marks → IsAssignment p y allowed roots → ⊥
deficient_none {p} {y} {allowed} {marks} {roots} d a =
    let sent = count_into (marked marks) (λ i. get_or roots i 0) p y (λ j. any_below p (λ i. marked marks i && allowed i j))
    (λ i h m. (a.is_root i h, found_any_below (λ k. marked marks k && allowed k (get_or roots i 0)) p h (both_true m (a.may i h))))
    (λ i j hi hj _ _. a.apart i j hi hj) in
    omega (arith, d.fewer, sent)
