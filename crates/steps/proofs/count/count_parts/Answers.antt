-- `steps::count::count_parts` meets its contract. The loop's invariant: the pass over the steps that are left gives the answer, and what is left at each
-- vertex is below the threshold, so that no sum wraps. Assumes nothing.
use Prim.Native.Nat.{ℕ, ◌+◌, ◌<◌}
use mathlib.Core.Path.{◌≡◌, refl}
use mathlib.Core.List.{List}
use native.Mathlib.Omega.{arith}
use lib.ListN.{get_or}
use Rattle.steps.specs.Steps.{step_child, step_weight}
use Rattle.steps.proofs.SweepUnderway.{left_small, weight_small}
use Rattle.steps.proofs.PartsCounting.{none_counted, counting_first, counting_done, counting_alone, counting_full, counting_joins}
use Rattle.steps.proofs.count.count_parts.Goals as goal

-- The piece is weighed by the step's weight and what is left at its child.
weighed : (left : List ℕ) (step : ℕ) {weight child : ℕ} → weight ≡ step_weight step → child ≡ step_child step
    → weight + get_or left child 0 ≡ step_weight step + get_or left (step_child step) 0
weighed left step p q = cc

pub returns-then-h-eq0 : goal.returns-then-h-eq0
returns-then-h-eq0 c = none_counted c.args.steps.now c.if-h-eq0.true

pub loop-step-init : goal.loop-step-init
loop-step-init c = counting_first c.args.steps.now (omega (arith, c.if-h-eq0.false))

pub offset_bounds-left-step_child : goal.offset_bounds-left-step_child
offset_bounds-left-step_child c = omega (arith, c.step_child.ensures, c.requires.inside.children c.loop-step.step-index c.loop-step-test.true)

pub bounds-left-step_child : goal.bounds-left-step_child
bounds-left-step_child c = omega (arith, c.step_child.ensures, c.requires.inside.children c.loop-step.step-index c.loop-step-test.true)

pub overflow_add-piece : goal.overflow_add-piece
overflow_add-piece c =
    let small_left : (u : ℕ) → get_or c.loop-step.left u 0 < 4294967296 = left_small c.loop-step.invariant.light c.requires.threshold_most in
    omega (
      arith,
      c.step_weight.ensures,
      weight_small (get_or c.args.steps.now c.loop-step.step-index 0) (omega (arith, c.type_inv.steps c.loop-step.step-index)),
      small_left c.step_child.result,
    )

pub loop-step-preserved-then-h-piece : goal.loop-step-preserved-then-h-piece
loop-step-preserved-then-h-piece c =
    counting_alone c.loop-step.invariant c.loop-step-test.true (omega (arith, c.if-h-eq0.false)) (weighed c.loop-step.left _ c.step_weight.ensures c.step_child.ensures)
    c.if-h-piece.true

pub offset_bounds-left-above : goal.offset_bounds-left-above
offset_bounds-left-above c = omega (arith, c.step_above-above.ensures, c.requires.inside.above c.loop-step.step-index c.loop-step-test.true)

pub bounds-left-above : goal.bounds-left-above
bounds-left-above c = omega (arith, c.step_above-above.ensures, c.requires.inside.above c.loop-step.step-index c.loop-step-test.true)

pub overflow_add-bunch : goal.overflow_add-bunch
overflow_add-bunch c =
    omega (arith, left_small c.loop-step.invariant.light c.requires.threshold_most c.step_above-above.result, c.if-h-piece.false, c.requires.threshold_most)

pub offset_bounds-left-above-then-h-bunch : goal.offset_bounds-left-above-then-h-bunch
offset_bounds-left-above-then-h-bunch c = omega (arith, c.step_above-above.ensures, c.requires.inside.above c.loop-step.step-index c.loop-step-test.true)

pub bounds-left-above-then-h-bunch : goal.bounds-left-above-then-h-bunch
bounds-left-above-then-h-bunch c = omega (arith, c.step_above-above.ensures, c.requires.inside.above c.loop-step.step-index c.loop-step-test.true)

pub loop-step-preserved-then-h-bunch : goal.loop-step-preserved-then-h-bunch
loop-step-preserved-then-h-bunch c =
    counting_full c.loop-step.invariant c.loop-step-test.true (omega (arith, c.if-h-eq0.false)) (weighed c.loop-step.left _ c.step_weight.ensures c.step_child.ensures)
    c.step_above-above.ensures (omega (arith, c.step_above-above.ensures, c.requires.inside.above c.loop-step.step-index c.loop-step-test.true)) refl c.if-h-piece.false c.if-h-bunch.true

pub offset_bounds-left-above-in-loop-step : goal.offset_bounds-left-above-in-loop-step
offset_bounds-left-above-in-loop-step c = omega (arith, c.step_above-above.ensures, c.requires.inside.above c.loop-step.step-index c.loop-step-test.true)

pub bounds-left-above-in-loop-step : goal.bounds-left-above-in-loop-step
bounds-left-above-in-loop-step c = omega (arith, c.step_above-above.ensures, c.requires.inside.above c.loop-step.step-index c.loop-step-test.true)

pub loop-step-preserved : goal.loop-step-preserved
loop-step-preserved c =
    counting_joins c.loop-step.invariant c.loop-step-test.true (omega (arith, c.if-h-eq0.false)) (weighed c.loop-step.left _ c.step_weight.ensures c.step_child.ensures)
    c.step_above-above.ensures (omega (arith, c.step_above-above.ensures, c.requires.inside.above c.loop-step.step-index c.loop-step-test.true)) refl c.if-h-piece.false c.if-h-bunch.false

pub returns : goal.returns
returns c = counting_done c.loop-step.invariant (omega (arith, c.loop-step-test.false))
