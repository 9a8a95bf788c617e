-- Weights by class: the percentage is 100 to 200, the adjusted weight is the least whole number not below its share, and never below the weight.
-- Assumes nothing.
use Prim.Native.Nat.{ℕ, ◌*◌, ◌≤◌}
use mathlib.Core.Path.{◌≡◌}
use mathlib.Core.Bool.{Bool, true, false, cond}
use mathlib.Core.Logic.{◌↔◌}
use native.Mathlib.Nat.{mul-le-mul}
use native.Mathlib.Omega.{arith}
use lib.Dec.{leb}
use Rattle.graph.specs.Surface.{percent_of, adjusted}

-- What holds of both arms holds of the choice.
either : (P : ℕ → Type 0) (test : Bool) {x y : ℕ} → P x → P y → P (cond test x y)
either P true p q = p
either P false p q = q

pub percent_range : (class : ℕ) → (100 ≤ percent_of class) × (percent_of class ≤ 200)
unfolding percent_of
percent_range class =
    let P : ℕ → Type 0 = λ p. (100 ≤ p) × (p ≤ 200) in
    either P (leb class 9) (omega arith, omega arith) (either P (leb class 19) (omega arith, omega arith)
    (either P (leb class 39) (omega arith, omega arith) (either P (leb class 59) (omega arith, omega arith) (omega arith, omega arith))))

module _ (weight class : ℕ) where
  -- It is not below weight times percent over 100,
  pub adjusted_enough : weight * percent_of class ≤ 100 * adjusted weight class
  unfolding adjusted
  adjusted_enough = omega arith

  -- and no less number is not: it is rounded up.
  pub adjusted_least : (x : ℕ) → weight * percent_of class ≤ 100 * x → adjusted weight class ≤ x
  unfolding adjusted
  adjusted_least x h = omega arith

  -- The share lies between the weight and twice the weight.
  pub share_range : (weight * 100 ≤ weight * percent_of class) × (weight * percent_of class ≤ weight * 200)
  share_range = let same : weight ≤ weight = omega arith in (mul-le-mul same (percent_range class).0, mul-le-mul same (percent_range class).1)

  -- It is never below the weight, and at most twice as much;
  pub adjusted_no_less : weight ≤ adjusted weight class
  adjusted_no_less = omega (arith, adjusted_enough, share_range)

  pub adjusted_most : adjusted weight class ≤ 2 * weight
  adjusted_most = adjusted_least (2 * weight) (omega (arith, share_range))

  -- so that it is 0 where the weight is 0, whatever the class, and nowhere else (document 02, A.4);
  pub adjusted_zero : (adjusted weight class ≡ 0) ↔ (weight ≡ 0)
  adjusted_zero = (λ q. omega (arith, adjusted_no_less), λ q. omega (arith, adjusted_most))

  -- at 100 percent it is the weight.
  pub adjusted_same : percent_of class ≡ 100 → adjusted weight class ≡ weight
  adjusted_same q = omega (arith, adjusted_no_less, adjusted_least weight (rw q (omega arith)))
