-- `distance::distances_from` meets its contract. The loop's invariant: some vertices are settled, others wait, and `least` is the nearest's key.
-- The measure is how many vertices are not settled. Assumes nothing.
use Prim.Native.Nat.{◌-◌}
use Rattle.distance.proofs.WhoWaits.{settled_count}
use Rattle.distance.proofs.SearchTurns.{Searching}
use Rattle.distance.proofs.distances_from.Given as goal

abbrev pub invariant-loop-least : goal.invariant-loop-least
invariant-loop-least l = Searching l.n l.around.bounds.now l.around.arcs.now l.root l.initial.dist l.initial.last l.least l.dist l.last l.wait l.low

abbrev pub decreases-loop-least : goal.decreases-loop-least
decreases-loop-least l = l.n - settled_count l.n l.dist l.wait
