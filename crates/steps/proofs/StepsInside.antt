-- The vertices of the steps are those that have marks: no more than 256.
-- Assumes nothing.
use Prim.Native.Nat.{ℕ, ◌≤◌, ◌<◌}
use mathlib.Core.Path.{◌≡◌, ap}
use mathlib.Core.List.Memᴰ
use mathlib.Core.List.{List, ◌∷◌, ◌++◌}
use mathlib.Core.Logic.{⊎_elim}
use native.Mathlib.Omega.{arith}
use lib.ListN.{length, get_or, length-set}
use Rattle.lists.specs.Member.{◌∈◌}
use Rattle.lists.proofs.Places.{at_place}
use Rattle.edges.specs.Around.{arc_head, arc_weight}
use Rattle.split.specs.SplitBelow.{passing}
use Rattle.steps.specs.Steps.{step_of, step_child, step_above}
use Rattle.steps.specs.StepsBelow.{StepsBelow, steps_done, steps_past, steps_child, StepsFrom, no_roots, steps_root}
use Rattle.steps.specs.StepsPut.{StepsInside}
use Rattle.steps.proofs.StepsMark.{steps_close}
use Rattle.steps.proofs.StepSwept.{step_child_lem, step_above_lem}

-- Both vertices of a step are below 256, of all of these steps.
abbrev Small : ℕ → Type 0
Small step = (step_child step < 256) × (step_above step < 256)

abbrev AllSmall : List ℕ → Type 0
AllSmall steps = (step : ℕ) → step ∈ steps → Small step

small_on : {xs ys : List ℕ} → AllSmall xs → AllSmall ys → AllSmall (xs ++ ys)
small_on {xs} a b step m = ⊎_elim (a step) (b step) (Memᴰ.append_cases xs m)

small_one : (c a w : ℕ) → c < 256 → a < 256 → {ys : List ℕ} → AllSmall ys → AllSmall (step_of c a w ∷ ys)
small_one c a w child_small above_small all step (Memᴰ.head q) =
    (omega (arith, ap step_child q, step_child_lem c a w (omega arith) (omega arith)), omega (arith, ap step_above q, step_above_lem c a w (omega arith) (omega arith)))
small_one c a w child_small above_small all step (Memᴰ.tail m) = all step m

module _ {bounds arcs : List ℕ} where
  below_small : {v : ℕ} {rest marks steps last : List ℕ} → StepsBelow bounds arcs v rest marks steps last → v < length marks → length marks ≤ 256 → AllSmall steps
  below_small steps_done inside few = λ step m. absurd (Memᴰ.not-nil m)
  below_small (steps_past p x) inside few = below_small x inside few
  below_small (steps_child {v = v} {arc = arc} {marks = marks} new l x y) inside few =
      let h : ℕ = arc_head arc in
      let size : length (passing h marks) ≡ length marks = length-set marks h 1 in
      let same = (steps_close x).size in
      small_on (below_small x (omega arith) (omega arith))
      (small_one h v (arc_weight arc) (omega arith) (omega arith) (below_small y (omega (arith, same)) (omega (arith, same))))

  from_small : {roots marks steps : List ℕ} → StepsFrom bounds arcs roots marks steps → length marks ≤ 256 → AllSmall steps
  from_small no_roots few = λ step m. absurd (Memᴰ.not-nil m)
  from_small (steps_root {r = r} {marks = marks} l x y) few =
      let size : length (passing r marks) ≡ length marks = length-set marks r 1 in
      let same = (steps_close x).size in
      small_on (below_small x (omega arith) (omega arith)) (from_small y (omega (arith, same)))

  pub steps_inside : {roots marks steps : List ℕ} → StepsFrom bounds arcs roots marks steps → length marks ≤ 256 → StepsInside steps
  steps_inside {steps = steps} x few =
      let small : AllSmall steps = from_small x few in
      record {
        children = λ i h. (small (get_or steps i 0) (at_place 0 steps i h)).0;
        above = λ i h. (small (get_or steps i 0) (at_place 0 steps i h)).1;
      }
