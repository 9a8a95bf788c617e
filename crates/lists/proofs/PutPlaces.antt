-- A list put into an array: what stands at a place of the list and at one before it, and the parts of the array before and behind the list.
-- Assumes nothing.
use Prim.Native.Nat.{ℕ, ◌+◌, ◌-◌, ◌≤◌, ◌<◌}
use mathlib.Core.Path.{◌≡◌, sym, ap, ◌∙◌}
use mathlib.Core.List.{List, ◌++◌}
use native.Mathlib.Nat.{zero-add}
use native.Mathlib.Omega.{arith}
use lib.ListN.{length, take, drop, get_or}
use lib.Seq.{slice, get_or-drop, get_or-take}
use Rattle.lists.specs.Put.{Put}
use Rattle.lists.proofs.Put.{put_rest, put_length}
use Rattle.lists.proofs.PutSlice.{put_before, put_slice}
use Rattle.lists.proofs.SegmentSizes.{slice_taken}
use Rattle.lists.proofs.Slices.{slice_same}

-- Put at the front, it stands before the rest of what was there.
pub put_at_front : {A : Type 0} {xs before after : List A} → Put 0 xs before after → after ≡ xs ++ drop (length xs) before
put_at_front {xs = xs} {before = before} p = p.is ∙ ap (λ n. xs ++ drop n before) (zero-add (length xs))

module _ {A : Type 0} {a b : List A} {at : ℕ} {xs : List A} (p : Put at xs a b) where
  -- at a place of the list
  pub put_at : (d : A) (j : ℕ) → j < length xs → get_or b (at + j) d ≡ get_or xs j d
  put_at d j h =
      sym (get_or-take (at + length xs) b (at + j) d (omega arith))
      ∙ sym (get_or-drop at (take (at + length xs) b) j d)
      ∙ ap (λ l. get_or l j d) (put_slice p)

  -- at a place before it
  pub put_at_before : (d : A) (j : ℕ) → j < at → get_or b j d ≡ get_or a j d
  put_at_before d j h = sym (get_or-take at b j d h) ∙ ap (λ l. get_or l j d) (put_before p) ∙ get_or-take at a j d h

  -- a part before it
  pub put_part_before : (i k : ℕ) → k ≤ at → slice i k b ≡ slice i k a
  put_part_before i k h = slice_same i k at b a h (put_before p)

  -- a part behind it
  pub put_part_behind : (i k : ℕ) → at + length xs ≤ i → i ≤ k → k ≤ length a → slice i k b ≡ slice i k a
  put_part_behind i k h l m =
      let q : i ≡ at + length xs + (i - (at + length xs)) = omega arith in
      slice_taken i k b l (omega (arith, put_length p))
      ∙ ap (take (k - i)) (ap (λ n. drop n b) q ∙ put_rest p (i - (at + length xs)) ∙ ap (λ n. drop n a) (sym q))
      ∙ sym (slice_taken i k a l m)
