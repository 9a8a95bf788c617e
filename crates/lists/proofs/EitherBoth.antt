-- Numbers that pass one of two tests, and numbers that pass both: together as many as pass the one and as pass the other.
-- Assumes nothing.
use Prim.Native.Nat.{ℕ, zero, suc, ◌+◌}
use mathlib.Core.Path.{◌≡◌, refl}
use mathlib.Core.Bool.{Bool, true, false, cond, ◌&&◌, ◌||◌}
use native.Mathlib.Omega.{arith}
use Rattle.lists.specs.Count.{count}

-- of one number
one_either_both : (s t : Bool) → cond (s || t) 1 0 + cond (s && t) 1 0 ≡ cond s 1 0 + cond t 1 0
one_either_both true true = refl
one_either_both true false = refl
one_either_both false true = refl
one_either_both false false = refl

pub count_either_both : (n : ℕ) (f h : ℕ → Bool) → count n (λ k. f k || h k) + count n (λ k. f k && h k) ≡ count n f + count n h
unfolding count
count_either_both zero f h = omega arith
count_either_both (suc n) f h = omega (arith, one_either_both (f n) (h n), count_either_both n f h)
