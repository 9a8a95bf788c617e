-- `exchange` meets its contract: each turn is one of `Exchanging`, and the place falls with each.
-- Assumes nothing.
use Rattle.matching.proofs.Exchanging.{Exchanging}
use Rattle.matching.proofs.path.exchange.Given as goal

abbrev pub invariant-loop-place : goal.invariant-loop-place
invariant-loop-place l = Exchanging l.i l.parts l.via l.from l.initial.out l.owner l.out l.root l.place

abbrev pub decreases-loop-place : goal.decreases-loop-place
decreases-loop-place l = l.place
