-- `pieces::whole::join_all` meets its contract. The loop's invariant: the edges before e are joined. Assumes nothing.
use native.Mathlib.Omega.{arith}
use Rattle.pieces.proofs.EdgesJoined.{joining_none, joining_more, joining_all}
use Rattle.pieces.proofs.whole.join_all.Goals as goal

pub loop-e-init : goal.loop-e-init
loop-e-init c = joining_none _

pub loop-e-preserved : goal.loop-e-preserved
loop-e-preserved c = joining_more c.loop-e.invariant (omega arith) (omega arith) (rw c.wide.ensures.is at c.join_ends.ensures)

pub returns : goal.returns
returns c = joining_all c.loop-e.invariant (omega arith)
