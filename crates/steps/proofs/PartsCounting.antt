-- Counting the parts in one pass over the steps: what is known each time before the next step is looked at. What is left and how many parts there are
-- stand for one state of the pass that tells at which parts a test holds.
-- Assumes nothing.
use Prim.Native.Nat.{ℕ, ◌+◌, ◌≤◌, ◌<◌}
use mathlib.Core.Path.{◌≡◌, refl, sym, ap, ◌∙◌}
use mathlib.Core.Bool.{Bool, false, ◌||◌}
use mathlib.Core.List.{List, [], ◌∷◌, ◌++◌}
use native.Mathlib.Omega.{arith}
use lib.ListN.{length, get_or, set, replicate, length-append}
use Rattle.steps.specs.Steps.{step_child, step_above, step_weight}
use Rattle.steps.specs.Touched.{Sweep, touches_piece, sweep_step, sweep, nowhere, parts_touched, parts_counted}
use Rattle.steps.proofs.SweepWays.{sweep_alone, sweep_full, sweep_joins}
use Rattle.steps.proofs.SweepUnderway.{Light, light_first, light_stored, Gives, gives_first, gives_more, gives_all}

-- With threshold 0 nothing is split.
none_split : (steps : List ℕ) (s : Sweep) → (sweep 0 nowhere steps s).parts ≡ s.parts
unfolding sweep sweep_step
none_split [] s = refl
none_split (step ∷ steps) s = none_split steps (sweep_step 0 nowhere step s)

pub none_counted : {H : ℕ} (steps : List ℕ) → H ≡ 0 → 0 ≡ parts_counted H steps
unfolding parts_counted parts_touched
none_counted {H} steps q =
    let p : H ≡ 0 = q in
    rw p (sym (ap length (none_split steps (record { left = replicate 256 0; touched = replicate 256 false; parts = [] }))))

-- What is counted of the first i steps: the pass over the others gives the answer from a state with what is left and so many parts.
pub record Counting (steps : List ℕ) (H : ℕ) (left : List ℕ) (parts i : ℕ) : Type 0 where
  pub few : parts ≤ i
  pub light : Light H left
  pub touched : List Bool
  pub told : List Bool
  pub count : length told ≡ parts
  pub rest : Gives H nowhere steps i (record { left = left; touched = touched; parts = told })

pub counting_first : {H : ℕ} (steps : List ℕ) → 0 < H → Counting steps H (replicate 256 0) 0 0
counting_first {H} steps h =
    record {
      few = omega arith;
      light = light_first h;
      touched = replicate 256 false;
      told = [];
      count = refl;
      rest = gives_first H nowhere steps;
    }

module _ {steps : List ℕ} {H : ℕ} {left : List ℕ} {parts i : ℕ} (c : Counting steps H left parts i) where
  abbrev state : Sweep
  state = record { left = left; touched = c.touched; parts = c.told }

  -- When all steps are passed, the parts are counted.
  pub counting_done : length steps ≤ i → parts ≡ parts_counted H steps
  unfolding parts_counted
  counting_done h = sym c.count ∙ ap length (gives_all c.rest h)

  module _ (more : i < length steps) (H-some : 0 < H) {piece : ℕ} (piece_is : piece ≡ step_weight (get_or steps i 0) + get_or left (step_child (get_or steps i 0)) 0) where
    abbrev step : ℕ
    step = get_or steps i 0

    abbrev own : Bool
    own = touches_piece nowhere step state

    one_more : (b : Bool) → length (c.told ++ (b ∷ [])) ≡ parts + 1
    one_more b = omega (arith, length-append c.told (b ∷ []), c.count)

    -- The child's piece is a part alone.
    pub counting_alone : H ≤ piece → Counting steps H left (parts + 1) (i + 1)
    counting_alone h =
        record {
          few = omega (arith, c.few);
          light = c.light;
          touched = c.touched;
          told = c.told ++ (own ∷ []);
          count = one_more own;
          rest = gives_more c.rest more (sweep_alone H-some nowhere step state piece_is refl h);
        }

    module _ {above bunch : ℕ} (above_is : above ≡ step_above step) (inside : above < 256) (bunch_is : bunch ≡ get_or left above 0 + piece) (light : piece < H) where
      abbrev both : Bool
      both = get_or c.touched above false || own

      -- The bunch with it is one,
      pub counting_full : H ≤ bunch → Counting steps H (set left above 0) (parts + 1) (i + 1)
      counting_full h =
          record {
            few = omega (arith, c.few);
            light = light_stored c.light inside H-some;
            touched = set c.touched above false;
            told = c.told ++ (both ∷ []);
            count = one_more both;
            rest = gives_more c.rest more (sweep_full H-some nowhere step state piece_is refl above_is bunch_is refl light h);
          }

      -- or it joins the bunch.
      pub counting_joins : bunch < H → Counting steps H (set left above bunch) parts (i + 1)
      counting_joins h =
          record {
            few = omega (arith, c.few);
            light = light_stored c.light inside h;
            touched = set c.touched above both;
            told = c.told;
            count = c.count;
            rest = gives_more c.rest more (sweep_joins H-some nowhere step state piece_is refl above_is bunch_is refl light h);
          }
