-- The child-list walk begins with all arcs, passes an arc whose head has a mark, and has a child's edge on the stack, its node walked and
-- its piece settled; where no arc is left, all children are walked. A child has no mark, so its walk's measure is smaller.
-- Assumes nothing.
use Rattle.std.proofs.Common.{ℕ, ◌≡◌, ◌+◌, ◌*◌, length, get_or, set, refl, ap, ◌∙◌, add-zero, add_assoc, arith, ne_eqb}
use Rattle.edges.specs.Around.{arc_head, arc_weight}
use Rattle.split.specs.SplitBelow.{unmarked, unvisited}
use Rattle.split.specs.ChildrenWalked.{state_of}
use Rattle.split.proofs.ChildWalked.{walked_of, child_less, edge_fits, pushed_length, child_walkable, child_settleable}
use Rattle.split.proofs.ArcsLent.{arcs_within, lent_none, lent_place, lent_is, lent_light, lent_child_over}
use Rattle.split.proofs.WalkUnderway.{underway_first, underway_done, underway_past, underway_child}
use Rattle.split.proofs.walk.+walk_children_walk_node.Goals as goal

pub walk_children-loop-arc-init : goal.walk_children-loop-arc-init
walk_children-loop-arc-init t c = rw add-zero (underway_first c.requires.room (c.requires.around.rising c.args.v c.requires.inside))

pub walk_children-loop-arc-preserved-then-passed-head-ne0 : goal.walk_children-loop-arc-preserved-then-passed-head-ne0
unfolding unmarked
walk_children-loop-arc-preserved-then-passed-head-ne0 t c =
    rw (← add_assoc)
    (underway_past c.loop-arc.invariant (lent_place c.requires.around c.requires.inside c.loop-arc-test.true) (arcs_within c.requires.around c.requires.inside)
    (c.arc_head-head.ensures ∙ ap arc_head (lent_is c.requires.around c.requires.inside c.loop-arc-test.true))
    (ne_eqb (get_or c.loop-arc.passed c.arc_head-head.result 0) 0 c.if-passed-head-ne0.true))

pub walk_children-bounds-stack-end : goal.walk_children-bounds-stack-end
walk_children-bounds-stack-end t c =
    edge_fits c.loop-arc.invariant.bunched
    (lent_child_over c.requires.around c.requires.inside c.loop-arc-test.true c.arc_head-head.ensures c.arc_edge.ensures c.if-passed-head-ne0.false)

pub walk_children-walk_node-piece-requires : goal.walk_children-walk_node-piece-requires
walk_children-walk_node-piece-requires t c =
    let u = c.loop-arc.invariant in
    let child = lent_child_over c.requires.around c.requires.inside c.loop-arc-test.true c.arc_head-head.ensures c.arc_edge.ensures c.if-passed-head-ne0.false in
    let is_t : 2 * unvisited (length c.args.stack.now) c.args.passed.now + 1 ≡ t = c.decreases in
    let same : length (set c.loop-arc.stack c.loop-arc.at.top c.arc_edge.result) ≡ length c.args.stack.now = pushed_length u.bunched child in
    (rw same (omega (arith, is_t, u.fewer, child_less u.bunched child)), child_walkable u.bunched child c.requires.around)

pub walk_children-overflow_add-piece : goal.walk_children-overflow_add-piece
walk_children-overflow_add-piece t c =
    let light = lent_light c.requires.around c.requires.inside c.loop-arc-test.true in
    let own = c.arc_weight-own.ensures ∙ ap arc_weight (lent_is c.requires.around c.requires.inside c.loop-arc-test.true) in
    grind (arith, light, own, c.walk_node-piece.ensures.bunched.light)

pub walk_children-settle-at-requires : goal.walk_children-settle-at-requires
walk_children-settle-at-requires t c =
    let u = c.loop-arc.invariant in
    let child = lent_child_over c.requires.around c.requires.inside c.loop-arc-test.true c.arc_head-head.ensures c.arc_edge.ensures c.if-passed-head-ne0.false in
    child_settleable u.bunched child
    (walked_of {t = state_of c.walk_node-piece.new.passed c.walk_node-piece.new.stack c.walk_node-piece.new.starts c.walk_node-piece.new.cuts c.walk_node-piece.new.members c.walk_node-piece.result} (pushed_length u.bunched child) c.walk_node-piece.ensures)
    c.requires.inside (lent_light c.requires.around c.requires.inside c.loop-arc-test.true) refl
    (ap (λ (x : ℕ). x + c.walk_node-piece.result.weight) (c.arc_weight-own.ensures ∙ ap arc_weight (lent_is c.requires.around c.requires.inside c.loop-arc-test.true)))

pub walk_children-loop-arc-preserved : goal.walk_children-loop-arc-preserved
walk_children-loop-arc-preserved t c =
    let u = c.loop-arc.invariant in
    let is = lent_is c.requires.around c.requires.inside c.loop-arc-test.true in
    let child = lent_child_over c.requires.around c.requires.inside c.loop-arc-test.true c.arc_head-head.ensures c.arc_edge.ensures c.if-passed-head-ne0.false in
    rw (← add_assoc)
    (underway_child u (lent_place c.requires.around c.requires.inside c.loop-arc-test.true) (arcs_within c.requires.around c.requires.inside) child
    (walked_of {t = state_of c.walk_node-piece.new.passed c.walk_node-piece.new.stack c.walk_node-piece.new.starts c.walk_node-piece.new.cuts c.walk_node-piece.new.members c.walk_node-piece.result} (pushed_length u.bunched child) c.walk_node-piece.ensures) refl
    (ap (λ (x : ℕ). x + c.walk_node-piece.result.weight) (c.arc_weight-own.ensures ∙ ap arc_weight is)) c.settle-at.ensures)

pub walk_children-returns : goal.walk_children-returns
walk_children-returns t c = underway_done c.loop-arc.invariant (lent_none c.requires.around c.requires.inside c.loop-arc.arc-index c.loop-arc-test.false)
