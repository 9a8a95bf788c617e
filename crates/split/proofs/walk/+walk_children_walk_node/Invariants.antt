-- What each walk's measure is, and what the child-list walk keeps. The measure is what is left to be visited: the node walk passes a vertex,
-- and the child-list walk calls it only at a vertex without a mark. Twice that number lets the calls between the two fall as well.
-- Assumes nothing.
use Rattle.std.proofs.Common.{length, set, ◌+◌, ◌*◌}
use Rattle.split.specs.SplitBelow.{unvisited}
use Rattle.split.specs.ChildrenWalked.{state_of}
use Rattle.split.proofs.WalkUnderway.{Underway}
use Rattle.split.proofs.walk.+walk_children_walk_node.Given as goal

abbrev pub decreases-walk_children : goal.decreases-walk_children
decreases-walk_children l = 2 * unvisited (length l.stack.now) l.passed.now + 1

abbrev pub decreases-walk_node : goal.decreases-walk_node
decreases-walk_node l = 2 * unvisited (length l.stack.now) (set l.passed.now l.v 1) + 2

abbrev pub invariant-walk_children-loop-arc : goal.invariant-walk_children-loop-arc
invariant-walk_children-loop-arc l =
    Underway (length l.initial.stack) l.around.bounds.now l.around.arcs.now l.h l.v l.base
    (state_of l.initial.passed l.initial.stack l.initial.starts l.initial.cuts l.initial.members l.initial.at)
    (l.from + l.arc-index) l.to
    (state_of l.passed l.stack l.starts l.cuts l.members l.at)
    l.at.weight
