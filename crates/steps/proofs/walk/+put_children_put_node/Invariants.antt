-- What each walk's measure is, and what the child-list walk keeps. The measure is what is left to be visited: the node walk passes a vertex,
-- and the child-list walk calls it only at a vertex without a mark. Twice that number lets the calls between the two fall as well.
-- Assumes nothing.
use Rattle.std.proofs.Common.{ℕ, List, length, ◌+◌, ◌*◌}
use Rattle.split.specs.SplitBelow.{unvisited, passing}
use Rattle.steps.proofs.StepsUnderway.{StepsUnderway}
use Rattle.steps.proofs.walk.+put_children_put_node.Given as goal

-- Twice what is left to be visited.
abbrev pub twice_left : List ℕ → ℕ
twice_left marks = 2 * unvisited (length marks) marks

abbrev pub decreases-put_children : goal.decreases-put_children
decreases-put_children l = twice_left l.passed.now + 1

abbrev pub decreases-put_node : goal.decreases-put_node
decreases-put_node l = twice_left (passing l.v l.passed.now) + 2

abbrev pub invariant-put_children-loop-a : goal.invariant-put_children-loop-a
invariant-put_children-loop-a l =
    StepsUnderway l.around.bounds.now l.around.arcs.now l.v l.at l.initial.passed l.initial.steps (l.from + l.a-index) l.to l.passed l.steps l.next
