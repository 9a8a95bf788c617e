-- How long the lines are of what the rules fix.
-- Assumes nothing.
use Prim.Native.Nat.{◌≤◌}
use mathlib.Core.Bool.{Bool, true, false}
use native.Mathlib.Omega.{arith}
use lib.ListN.{length}
use Rattle.gate_replies.specs.Fixed.{yes_word}

pub yes_few : (sure : Bool) → length (yes_word sure) ≤ 4
unfolding yes_word
yes_few true = omega arith
yes_few false = omega arith
