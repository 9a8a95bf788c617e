-- Segments of a list: two that meet, and those of lists that begin alike.
-- Assumes nothing.
use Prim.Native.Nat.{ℕ, ◌≤◌}
use mathlib.Core.Path.{◌≡◌, sym, ap, ◌∙◌}
use mathlib.Core.List.{List, ◌++◌}
use native.Mathlib.Omega.{arith}
use lib.ListN.{length, take, drop, take-append-drop}
use lib.Seq.{slice, take-take, drop-append-le, length-take-le}

module _ {A : Type 0} where
  -- the elements up to c are those up to b, then those from b to c
  take_slice : (b c : ℕ) (l : List A) → b ≤ c → take c l ≡ take b l ++ slice b c l
  take_slice b c l h = sym (take-append-drop b (take c l)) ∙ ap (λ (x : List A). x ++ slice b c l) (take-take b c l h)

  -- two segments that meet
  pub slice_join : (a b c : ℕ) (l : List A) → a ≤ b → b ≤ c → b ≤ length l → slice a c l ≡ slice a b l ++ slice b c l
  slice_join a b c l h k m =
      ap (drop a) (take_slice b c l k) ∙ drop-append-le a (take b l) (slice b c l) (omega (arith, length-take-le b l m))

  -- lists that begin alike have the same segments there
  pub slice_same : (a b c : ℕ) (l m : List A) → b ≤ c → take c l ≡ take c m → slice a b l ≡ slice a b m
  slice_same a b c l m h q = ap (drop a) (sym (take-take b c l h) ∙ ap (take b) q ∙ take-take b c m h)
