-- `find` meets its contract: each way through the loops' bodies is one of `Searching`. Places rise.
-- Assumes nothing.
use Prim.Native.Nat.{◌-◌, ◌<◌}
use Rattle.matching.specs.Input.{allowed_at}
use Rattle.matching.proofs.Searching.{Searching}
use Rattle.matching.proofs.path.find.Given as goal

abbrev pub invariant-loop-at : goal.invariant-loop-at
invariant-loop-at l = Searching l.y (allowed_at l.allowed l.y) l.i l.owner l.parts l.via l.from l.t l.at 0

abbrev pub decreases-loop-at : goal.decreases-loop-at
decreases-loop-at l = 33 - l.at

abbrev pub invariant-loop-j : goal.invariant-loop-j
invariant-loop-j l = (l.at < l.t) × Searching l.y (allowed_at l.allowed l.y) l.i l.owner l.parts l.via l.from l.t l.at l.j
