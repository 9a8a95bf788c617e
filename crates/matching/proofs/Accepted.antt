-- What is known of an input that is not refused.
-- Assumes nothing.
use Prim.Native.Nat.{ℕ, ◌*◌, ◌≤◌}
use mathlib.Core.Path.{◌≡◌}
use mathlib.Core.Bool.{Bool, false, not, ◌||◌}
use mathlib.Core.List.{List}
use lib.Dec.{ltb, eqb}
use lib.ListN.{length}
use borrow.Author.Tests.{ltb-false, eqb-true, not-false}
use Rattle.lists.specs.Lists.{any}
use Rattle.lists.proofs.Every.{first_false, second_false}
use Rattle.matching.specs.Input.{above_one, refused_of}

pub record Accepted (p y : ℕ) (bytes : List ℕ) (buffer : ℕ) : Type 0 where
  pub parts : p ≤ 255
  pub some : 1 ≤ y
  pub few : y ≤ 32
  pub size : length bytes ≡ p * y
  pub fits : p ≤ buffer

-- Neither test is passed.
neither : (a b : Bool) → a || b ≡ false → (a ≡ false) × (b ≡ false)
neither a b e = (first_false a b e, second_false a b e)

pub accepted : (p y : ℕ) (bytes : List ℕ) (buffer : ℕ) → refused_of p y bytes buffer ≡ false → Accepted p y bytes buffer
unfolding refused_of
accepted p y bytes buffer e =
    let ranges = ltb 255 p || (ltb y 1 || ltb 32 y) in
    let sizes = ranges || not (eqb (length bytes) (p * y)) in
    let d = neither (sizes || any above_one bytes) (ltb buffer p) e in
    let c = neither sizes (any above_one bytes) d.0 in
    let b = neither ranges (not (eqb (length bytes) (p * y))) c.0 in
    let a = neither (ltb 255 p) (ltb y 1 || ltb 32 y) b.0 in
    let r = neither (ltb y 1) (ltb 32 y) a.1 in
    record {
      parts = ltb-false 255 p a.0;
      some = ltb-false y 1 r.0;
      few = ltb-false 32 y r.1;
      size = eqb-true (length bytes) (p * y) (not-false (eqb (length bytes) (p * y)) b.1);
      fits = ltb-false buffer p d.1;
    }
