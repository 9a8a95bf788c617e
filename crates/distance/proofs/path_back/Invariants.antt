-- `distance::path_back` meets its contract. The loop's invariant: the trail is written up to the vertex at hand.
-- The measure is the room that is left. Assumes nothing.
use Prim.Native.Nat.{◌-◌}
use lib.ListN.{length}
use Rattle.distance.proofs.Trails.{Following}
use Rattle.distance.proofs.path_back.Given as goal

abbrev pub invariant-loop-at : goal.invariant-loop-at
invariant-loop-at l = Following l.last l.root l.v l.initial.out l.out l.at l.r

abbrev pub decreases-loop-at : goal.decreases-loop-at
decreases-loop-at l = length l.out - l.r
