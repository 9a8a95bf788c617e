-- A test as a number, 1 where it says yes and otherwise 0.
-- Assumes nothing.
use Prim.Native.Nat.{◌<◌}
use mathlib.Core.Path.{◌≡◌, refl}
use mathlib.Core.Bool.{Bool, true, false, cond}
use native.Mathlib.Omega.{arith}
use lib.Dec.{eqb}

-- It is 1 exactly where the test says yes,
pub bit_says : (t : Bool) → eqb (cond t 1 0) 1 ≡ t
bit_says true = refl
bit_says false = refl

-- and below 2.
pub bit_small : (t : Bool) → cond t 1 0 < 2
bit_small true = omega arith
bit_small false = omega arith
