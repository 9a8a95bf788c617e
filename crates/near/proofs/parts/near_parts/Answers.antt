-- `near::parts::near_parts` meets its contract. The loop's invariant: for each root the pass over the steps that are left gives the answer, and what is left
-- at each vertex is below the threshold, so that no sum wraps. Assumes nothing.
use Prim.Native.Nat.{ℕ, ◌+◌, ◌<◌}
use mathlib.Core.Path.{◌≡◌, refl}
use mathlib.Core.List.{List}
use native.Mathlib.Omega.{arith}
use lib.Bits.{bit_or}
use lib.ListN.{get_or}
use Rattle.steps.specs.Steps.{step_child, step_above, step_weight}
use Rattle.steps.proofs.SweepUnderway.{left_small, weight_small}
use Rattle.near.proofs.PartsMarking.{AtStep, marking_first, marking_done, room_alone, marking_alone, room_full, marking_full, marking_joins}
use Rattle.near.proofs.parts.near_parts.Goals as goal

-- A step as the code looks at it.
looked : (near left beside : List ℕ) (step : ℕ) {child above weight : ℕ} → child ≡ step_child step → above ≡ step_above step → weight ≡ step_weight step
    → AtStep near left beside step child above (weight + get_or left child 0) (bit_or (get_or beside child 0) (bit_or (get_or near child 0) (get_or near above 0)))
looked near left beside step p q r = record { child_is = p; above_is = q; piece_is = cc r; own_is = refl }

pub loop-step-init : goal.loop-step-init
loop-step-init c = marking_first c.args.steps.now c.args.near.now c.args.parts.now c.requires.threshold_some

pub offset_bounds-left-child : goal.offset_bounds-left-child
offset_bounds-left-child c = omega (arith, c.step_child-child.ensures, c.requires.countable.inside.children c.loop-step.step-index c.loop-step-test.true)

pub bounds-left-child : goal.bounds-left-child
bounds-left-child c = omega (arith, c.step_child-child.ensures, c.requires.countable.inside.children c.loop-step.step-index c.loop-step-test.true)

pub overflow_add-piece : goal.overflow_add-piece
overflow_add-piece c =
    let small_left : (u : ℕ) → get_or c.loop-step.left u 0 < 4294967296 = left_small c.loop-step.invariant.light c.requires.countable.threshold_most in
    omega (
      arith,
      c.step_weight.ensures,
      weight_small (get_or c.args.steps.now c.loop-step.step-index 0) (omega (arith, c.type_inv.steps c.loop-step.step-index)),
      small_left c.step_child-child.result,
    )

pub offset_bounds-beside-child : goal.offset_bounds-beside-child
offset_bounds-beside-child c =
    omega (arith, c.step_child-child.ensures, c.requires.countable.inside.children c.loop-step.step-index c.loop-step-test.true)

pub bounds-beside-child : goal.bounds-beside-child
bounds-beside-child c = omega (arith, c.step_child-child.ensures, c.requires.countable.inside.children c.loop-step.step-index c.loop-step-test.true)

pub offset_bounds-near-child : goal.offset_bounds-near-child
offset_bounds-near-child c = omega (arith, c.step_child-child.ensures, c.requires.countable.inside.children c.loop-step.step-index c.loop-step-test.true)

pub bounds-near-child : goal.bounds-near-child
bounds-near-child c =
    omega (arith, c.step_child-child.ensures, c.requires.countable.inside.children c.loop-step.step-index c.loop-step-test.true, c.requires.near_room)

pub offset_bounds-near-above : goal.offset_bounds-near-above
offset_bounds-near-above c = omega (arith, c.step_above-above.ensures, c.requires.countable.inside.above c.loop-step.step-index c.loop-step-test.true)

pub bounds-near-above : goal.bounds-near-above
bounds-near-above c =
    omega (arith, c.step_above-above.ensures, c.requires.countable.inside.above c.loop-step.step-index c.loop-step-test.true, c.requires.near_room)

pub offset_bounds-parts-r : goal.offset_bounds-parts-r
offset_bounds-parts-r c =
    let at = looked c.args.near.now c.loop-step.left c.loop-step.beside _ c.step_child-child.ensures c.step_above-above.ensures c.step_weight.ensures in
    omega (arith, room_alone c.loop-step.invariant c.requires c.loop-step-test.true at c.if-h-piece.true)

pub bounds-parts-r : goal.bounds-parts-r
bounds-parts-r c =
    let at = looked c.args.near.now c.loop-step.left c.loop-step.beside _ c.step_child-child.ensures c.step_above-above.ensures c.step_weight.ensures in
    room_alone c.loop-step.invariant c.requires c.loop-step-test.true at c.if-h-piece.true

pub overflow_add-r : goal.overflow_add-r
overflow_add-r c =
    let at = looked c.args.near.now c.loop-step.left c.loop-step.beside _ c.step_child-child.ensures c.step_above-above.ensures c.step_weight.ensures in
    omega (arith, room_alone c.loop-step.invariant c.requires c.loop-step-test.true at c.if-h-piece.true)

pub loop-step-preserved-then-h-piece : goal.loop-step-preserved-then-h-piece
loop-step-preserved-then-h-piece c =
    let at = looked c.args.near.now c.loop-step.left c.loop-step.beside _ c.step_child-child.ensures c.step_above-above.ensures c.step_weight.ensures in
    marking_alone c.loop-step.invariant c.requires c.loop-step-test.true at c.if-h-piece.true

pub offset_bounds-left-above : goal.offset_bounds-left-above
offset_bounds-left-above c = omega (arith, c.step_above-above.ensures, c.requires.countable.inside.above c.loop-step.step-index c.loop-step-test.true)

pub bounds-left-above : goal.bounds-left-above
bounds-left-above c = omega (arith, c.step_above-above.ensures, c.requires.countable.inside.above c.loop-step.step-index c.loop-step-test.true)

pub overflow_add-bunch : goal.overflow_add-bunch
overflow_add-bunch c =
    omega (
      arith,
      left_small c.loop-step.invariant.light c.requires.countable.threshold_most c.step_above-above.result,
      c.if-h-piece.false,
      c.requires.countable.threshold_most,
    )

pub offset_bounds-beside-above : goal.offset_bounds-beside-above
offset_bounds-beside-above c = omega (arith, c.step_above-above.ensures, c.requires.countable.inside.above c.loop-step.step-index c.loop-step-test.true)

pub bounds-beside-above : goal.bounds-beside-above
bounds-beside-above c = omega (arith, c.step_above-above.ensures, c.requires.countable.inside.above c.loop-step.step-index c.loop-step-test.true)

pub offset_bounds-parts-r-then-h-bunch : goal.offset_bounds-parts-r-then-h-bunch
offset_bounds-parts-r-then-h-bunch c =
    let at = looked c.args.near.now c.loop-step.left c.loop-step.beside _ c.step_child-child.ensures c.step_above-above.ensures c.step_weight.ensures in
    let inside : c.step_above-above.result < 256 = omega (arith, c.step_above-above.ensures, c.requires.countable.inside.above c.loop-step.step-index c.loop-step-test.true) in
    omega (arith, room_full c.loop-step.invariant c.requires c.loop-step-test.true at inside c.if-h-piece.false refl refl c.if-h-bunch.true)

pub bounds-parts-r-then-h-bunch : goal.bounds-parts-r-then-h-bunch
bounds-parts-r-then-h-bunch c =
    let at = looked c.args.near.now c.loop-step.left c.loop-step.beside _ c.step_child-child.ensures c.step_above-above.ensures c.step_weight.ensures in
    let inside : c.step_above-above.result < 256 = omega (arith, c.step_above-above.ensures, c.requires.countable.inside.above c.loop-step.step-index c.loop-step-test.true) in
    room_full c.loop-step.invariant c.requires c.loop-step-test.true at inside c.if-h-piece.false refl refl c.if-h-bunch.true

pub overflow_add-r-then-h-bunch : goal.overflow_add-r-then-h-bunch
overflow_add-r-then-h-bunch c =
    let at = looked c.args.near.now c.loop-step.left c.loop-step.beside _ c.step_child-child.ensures c.step_above-above.ensures c.step_weight.ensures in
    let inside : c.step_above-above.result < 256 = omega (arith, c.step_above-above.ensures, c.requires.countable.inside.above c.loop-step.step-index c.loop-step-test.true) in
    omega (arith, room_full c.loop-step.invariant c.requires c.loop-step-test.true at inside c.if-h-piece.false refl refl c.if-h-bunch.true)

pub offset_bounds-left-above-then-h-bunch : goal.offset_bounds-left-above-then-h-bunch
offset_bounds-left-above-then-h-bunch c =
    omega (arith, c.step_above-above.ensures, c.requires.countable.inside.above c.loop-step.step-index c.loop-step-test.true)

pub bounds-left-above-then-h-bunch : goal.bounds-left-above-then-h-bunch
bounds-left-above-then-h-bunch c =
    omega (arith, c.step_above-above.ensures, c.requires.countable.inside.above c.loop-step.step-index c.loop-step-test.true)

pub offset_bounds-beside-above-then-h-bunch : goal.offset_bounds-beside-above-then-h-bunch
offset_bounds-beside-above-then-h-bunch c =
    omega (arith, c.step_above-above.ensures, c.requires.countable.inside.above c.loop-step.step-index c.loop-step-test.true)

pub bounds-beside-above-then-h-bunch : goal.bounds-beside-above-then-h-bunch
bounds-beside-above-then-h-bunch c =
    omega (arith, c.step_above-above.ensures, c.requires.countable.inside.above c.loop-step.step-index c.loop-step-test.true)

pub loop-step-preserved-then-h-bunch : goal.loop-step-preserved-then-h-bunch
loop-step-preserved-then-h-bunch c =
    let at = looked c.args.near.now c.loop-step.left c.loop-step.beside _ c.step_child-child.ensures c.step_above-above.ensures c.step_weight.ensures in
    let inside : c.step_above-above.result < 256 = omega (arith, c.step_above-above.ensures, c.requires.countable.inside.above c.loop-step.step-index c.loop-step-test.true) in
    marking_full c.loop-step.invariant c.requires c.loop-step-test.true at inside c.if-h-piece.false refl refl c.if-h-bunch.true

pub offset_bounds-left-above-in-loop-step : goal.offset_bounds-left-above-in-loop-step
offset_bounds-left-above-in-loop-step c =
    omega (arith, c.step_above-above.ensures, c.requires.countable.inside.above c.loop-step.step-index c.loop-step-test.true)

pub bounds-left-above-in-loop-step : goal.bounds-left-above-in-loop-step
bounds-left-above-in-loop-step c =
    omega (arith, c.step_above-above.ensures, c.requires.countable.inside.above c.loop-step.step-index c.loop-step-test.true)

pub offset_bounds-beside-above-in-loop-step : goal.offset_bounds-beside-above-in-loop-step
offset_bounds-beside-above-in-loop-step c =
    omega (arith, c.step_above-above.ensures, c.requires.countable.inside.above c.loop-step.step-index c.loop-step-test.true)

pub bounds-beside-above-in-loop-step : goal.bounds-beside-above-in-loop-step
bounds-beside-above-in-loop-step c =
    omega (arith, c.step_above-above.ensures, c.requires.countable.inside.above c.loop-step.step-index c.loop-step-test.true)

pub loop-step-preserved : goal.loop-step-preserved
loop-step-preserved c =
    let at = looked c.args.near.now c.loop-step.left c.loop-step.beside _ c.step_child-child.ensures c.step_above-above.ensures c.step_weight.ensures in
    let inside : c.step_above-above.result < 256 = omega (arith, c.step_above-above.ensures, c.requires.countable.inside.above c.loop-step.step-index c.loop-step-test.true) in
    marking_joins c.loop-step.invariant c.requires c.loop-step-test.true at inside c.if-h-piece.false refl refl c.if-h-bunch.false

pub returns : goal.returns
returns c = marking_done c.loop-step.invariant (omega (arith, c.loop-step-test.false))
