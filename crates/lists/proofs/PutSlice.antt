-- What stands before a list that was put into an array, and the list itself as a segment.
-- Assumes nothing.
use Prim.Native.Nat.{ℕ, ◌+◌}
use mathlib.Core.Path.{◌≡◌, sym, ap, ◌∙◌}
use mathlib.Core.List.{List}
use native.Mathlib.Omega.{arith}
use lib.ListN.{length, take, drop}
use lib.Seq.{slice, length-take-le, take_at, drop_at, take-take}
use Rattle.lists.specs.Put.{Put}
use Rattle.lists.proofs.Put.{put_head}

module _ {A : Type 0} {a b : List A} {at : ℕ} {xs : List A} (p : Put at xs a b) where
  -- What stands before a list that was put is as it came,
  pub put_before : take at b ≡ take at a
  put_before =
      sym (take-take at (at + length xs) b (omega arith))
      ∙ ap (take at) (put_head p)
      ∙ take_at (take at a) xs at (length-take-le at a (omega (arith, p.room)))

  -- and the list is a segment of the array.
  pub put_slice : slice at (at + length xs) b ≡ xs
  put_slice = ap (drop at) (put_head p) ∙ drop_at (take at a) xs at (length-take-le at a (omega (arith, p.room)))
