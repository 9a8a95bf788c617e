-- The child-list walk begins with all arcs, passes an arc whose head has a mark, and at a child writes the steps below it and then its own
-- step; where no arc is left, all steps are written. A child has no mark, so its walk's measure is smaller.
-- Assumes nothing.
use Rattle.std.proofs.Common.{◌≡◌, ◌+◌, get_or, ap, ◌∙◌, add-zero, add_assoc, arith, ne_eqb}
use Rattle.edges.specs.Around.{arc_head, arc_weight}
use Rattle.split.specs.SplitBelow.{unmarked}
use Rattle.split.proofs.ArcsLent.{arcs_within, lent_none, lent_place, lent_is, lent_child}
use Rattle.steps.specs.Steps.{step_of}
use Rattle.steps.proofs.StepsUnderway.{steps_first, steps_all, steps_past_by, below_fewer, below_asked, step_fits, steps_child_by}
use Rattle.steps.proofs.walk.+put_children_put_node.Invariants.{twice_left}
use Rattle.steps.proofs.walk.+put_children_put_node.Goals as goal

pub put_children-loop-a-init : goal.put_children-loop-a-init
put_children-loop-a-init t c = rw add-zero (steps_first c.requires)

pub put_children-loop-a-preserved-then-passed-head-ne0 : goal.put_children-loop-a-preserved-then-passed-head-ne0
unfolding unmarked
put_children-loop-a-preserved-then-passed-head-ne0 t c =
    rw (← add_assoc)
    (steps_past_by c.loop-a.invariant (lent_place c.requires.around c.requires.inside c.loop-a-test.true) (arcs_within c.requires.around c.requires.inside)
    (c.arc_head-head.ensures ∙ ap arc_head (lent_is c.requires.around c.requires.inside c.loop-a-test.true))
    (ne_eqb (get_or c.loop-a.passed c.arc_head-head.result 0) 0 c.if-passed-head-ne0.true))

pub put_children-put_node-end-requires : goal.put_children-put_node-end-requires
put_children-put_node-end-requires t c =
    let u = c.loop-a.invariant in
    let more = lent_place c.requires.around c.requires.inside c.loop-a-test.true in
    let all = arcs_within c.requires.around c.requires.inside in
    let child = lent_child c.requires.around c.requires.inside c.loop-a-test.true c.arc_head-head.ensures c.if-passed-head-ne0.false in
    let is_t : twice_left c.args.passed.now + 1 ≡ t = c.decreases in
    (omega (arith, is_t, below_fewer u more all child), below_asked u more all child c.requires)

pub put_children-bounds-steps-end : goal.put_children-bounds-steps-end
put_children-bounds-steps-end t c =
    step_fits c.loop-a.invariant (lent_place c.requires.around c.requires.inside c.loop-a-test.true) (arcs_within c.requires.around c.requires.inside)
    (lent_child c.requires.around c.requires.inside c.loop-a-test.true c.arc_head-head.ensures c.if-passed-head-ne0.false) c.requires.room
    c.put_node-end.ensures

pub put_children-loop-a-preserved : goal.put_children-loop-a-preserved
put_children-loop-a-preserved t c =
    let is = lent_is c.requires.around c.requires.inside c.loop-a-test.true in
    rw (← add_assoc)
    (steps_child_by c.loop-a.invariant (lent_place c.requires.around c.requires.inside c.loop-a-test.true) (arcs_within c.requires.around c.requires.inside)
    (lent_child c.requires.around c.requires.inside c.loop-a-test.true c.arc_head-head.ensures c.if-passed-head-ne0.false) c.requires.room
    c.put_node-end.ensures (c.step_of.ensures ∙ ap (step_of c.arc_head-head.result c.args.v) (c.arc_weight.ensures ∙ ap arc_weight is)))

pub put_children-returns : goal.put_children-returns
put_children-returns t c = steps_all c.loop-a.invariant (lent_none c.requires.around c.requires.inside c.loop-a.a-index c.loop-a-test.false)
