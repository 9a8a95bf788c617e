-- `filed::parents::stands_for` meets its contract. The loop's invariant: x is on the way from v up, and `up` is its parent. The measure is x,
-- since parents fall. Assumes nothing.
use mathlib.Core.Path.{◌≡◌}
use lib.ListN.{get_or}
use Rattle.filed.proofs.JoinedByParents.{OnTheWay}
use Rattle.filed.proofs.parents.stands_for.Given as goal

abbrev pub invariant-loop-up : goal.invariant-loop-up
invariant-loop-up l = OnTheWay l.v l.x l.initial.parents l.parents × (l.up ≡ get_or l.parents l.x 0)

abbrev pub decreases-loop-up : goal.decreases-loop-up
decreases-loop-up l = l.x
