-- Segments that begin at the front and follow one another hold every element up to the last bound.
-- Assumes nothing.
use Prim.Native.Nat.{ℕ, zero, suc, ◌+◌, ◌≤◌, ◌<◌}
use mathlib.Core.Path.{◌≡◌}
use mathlib.Core.List.{List}
use mathlib.Core.Logic.{dite}
use native.Mathlib.Decide.{dec_lt}
use native.Mathlib.Numerals.{add-one}
use native.Mathlib.Omega.{arith}
use lib.ListN.{length, get_or}
use Rattle.lists.specs.Member.{◌∈◌}
use Rattle.lists.specs.Segments.{segment, Bounded}
use Rattle.lists.proofs.SlicePlaces.{in_slice}

module _ {bounds : List ℕ} {k used : ℕ} (b : Bounded bounds k used) (first : get_or bounds 0 0 ≡ 0) (i : ℕ) where
  -- below some bound the place lies in a segment before it
  find : (p : ℕ) → p ≤ k → i < get_or bounds p 0 → (q : ℕ) × (q < k) × (get_or bounds q 0 ≤ i) × (i < get_or bounds (q + 1) 0)
  find zero h l = absurd (omega arith)
  find (suc p) h l =
      dite (dec_lt i (get_or bounds p 0)) (λ y. find p (omega arith) y)
      (λ n. (p, omega arith, omega arith, rw add-one l))

  -- Each element up to the last bound stands in a segment.
  pub in_some_segment : {A : Type 0} (xs : List A) (d : A) → i < used → used ≤ length xs → (q : ℕ) × (q < k) × (get_or xs i d ∈ segment bounds xs q)
  unfolding segment
  in_some_segment xs d l h =
      let (q, m, lo, hi) = find k (omega arith) (omega (arith, b.last)) in
      (q, m, in_slice xs d (get_or bounds q 0) i (get_or bounds (q + 1) 0) lo hi (omega (arith, b.within (q + 1) (omega arith))))
