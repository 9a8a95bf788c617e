-- What stands in a part of a list stands at a place of that part, and the other way round.
-- Assumes nothing.
use Prim.Native.Nat.{ℕ, ◌+◌, ◌-◌, ◌≤◌, ◌<◌}
use mathlib.Core.Path.{◌≡◌, sym, ◌∙◌}
use mathlib.Core.List.{List}
use native.Mathlib.Omega.{arith}
use lib.ListN.{length, take, get_or}
use lib.Seq.{slice, get_or-take, get_or-drop, length-slice}
use Rattle.lists.specs.Member.{◌∈◌}
use Rattle.lists.proofs.Places.{at_place, place_of}

module _ {A : Type 0} (l : List A) (d : A) where
  -- what stands in the part at its place i stands in the list at place a + i
  slice_at : (a c i : ℕ) → a + i < c → get_or (slice a c l) i d ≡ get_or l (a + i) d
  slice_at a c i h = get_or-drop a (take c l) i d ∙ get_or-take c l (a + i) d h

  -- what stands at a place from a up to c stands in the part
  pub in_slice : (a i c : ℕ) → a ≤ i → i < c → c ≤ length l → get_or l i d ∈ slice a c l
  in_slice a i c h k m =
      let same : a + (i - a) ≡ i = omega arith in
      rw (slice_at a c (i - a) (omega arith), same) at (at_place d (slice a c l) (i - a) (omega (arith, length-slice a c l m)))

  -- what stands in the part stands at such a place
  pub of_slice : (a c : ℕ) → c ≤ length l → {x : A} → x ∈ slice a c l → (i : ℕ) × (a ≤ i) × (i < c) × (get_or l i d ≡ x)
  of_slice a c m k =
      let (i, h, q) = place_of d k in
      (a + i, omega arith, omega (arith, length-slice a c l m), sym (slice_at a c i (omega (arith, length-slice a c l m))) ∙ q)
