-- One step of the pass that marks the parts, by the way it goes; and the parts only grow along it.
-- Assumes nothing.
use Prim.Native.Nat.{ℕ, ◌+◌, ◌≤◌, ◌<◌}
use mathlib.Core.Path.{◌≡◌, refl, sym}
use mathlib.Core.Bool.{Bool, false, ◌||◌}
use mathlib.Core.List.{List, [], ◌∷◌, ◌++◌}
use mathlib.Core.Logic.{dite}
use native.Mathlib.Decide.{dec_le}
use native.Mathlib.Omega.{arith}
use borrow.Author.Tests.{lt-ltb, le-leb, lt-leb}
use lib.ListN.{length, get_or, set, length-append}
use Rattle.steps.specs.Steps.{step_child, step_above, step_weight}
use Rattle.steps.specs.Touched.{Sweep, touches_piece, sweep_step, sweep}

module _ {H : ℕ} (H-some : 0 < H) (test : ℕ → Bool) (step : ℕ) (s : Sweep) {piece : ℕ} {own : Bool}
    (piece_is : piece ≡ step_weight step + get_or s.left (step_child step) 0) (own_is : own ≡ touches_piece test step s) where
  -- The child's piece is a part alone.
  pub sweep_alone : H ≤ piece → sweep_step H test step s ≡ record { left = s.left; touched = s.touched; parts = s.parts ++ (own ∷ []) }
  unfolding sweep_step
  sweep_alone h = rw (sym piece_is, sym own_is, lt-ltb 0 H H-some, le-leb H piece h)

  module _ {above bunch : ℕ} {both : Bool} (above_is : above ≡ step_above step)
      (bunch_is : bunch ≡ get_or s.left above 0 + piece) (both_is : both ≡ get_or s.touched above false || own) (light : piece < H) where
    -- The bunch with it is one,
    pub sweep_full : H ≤ bunch
        → sweep_step H test step s ≡ record { left = set s.left above 0; touched = set s.touched above false; parts = s.parts ++ (both ∷ []) }
    unfolding sweep_step
    sweep_full h =
        rw (sym piece_is, sym own_is, sym above_is, sym bunch_is, sym both_is, lt-ltb 0 H H-some, lt-leb H piece light, le-leb H bunch h)

    -- or it joins the bunch.
    pub sweep_joins : bunch < H
        → sweep_step H test step s ≡ record { left = set s.left above bunch; touched = set s.touched above both; parts = s.parts }
    unfolding sweep_step
    sweep_joins h =
        rw (sym piece_is, sym own_is, sym above_is, sym bunch_is, sym both_is, lt-ltb 0 H H-some, lt-leb H piece light, lt-leb H bunch h)

-- So the parts only grow.
module _ {H : ℕ} (H-some : 0 < H) (test : ℕ → Bool) where
  step_grows : (step : ℕ) (s : Sweep) → length s.parts ≤ length (sweep_step H test step s).parts
  step_grows step s =
      let piece : ℕ = step_weight step + get_or s.left (step_child step) 0 in
      let bunch : ℕ = get_or s.left (step_above step) 0 + piece in
      dite (dec_le H piece) (λ h. rw (sweep_alone H-some test step s refl refl h, length-append) (omega arith))
      (λ h. dite (dec_le H bunch)
      (λ k. rw (sweep_full H-some test step s refl refl refl refl refl (omega arith) k, length-append) (omega arith))
      (λ k. rw (sweep_joins H-some test step s refl refl refl refl refl (omega arith) (omega arith)) (omega arith)))

  pub sweep_grows : (steps : List ℕ) (s : Sweep) → length s.parts ≤ length (sweep H test steps s).parts
  unfolding sweep
  sweep_grows [] s = omega arith
  sweep_grows (step ∷ steps) s = omega (arith, step_grows step s, sweep_grows steps (sweep_step H test step s))
