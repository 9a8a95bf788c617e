-- `filed_entries::vertices::mark_starts` meets its contract. The loop's invariant: the starts before j are marked.
-- Assumes nothing.
use native.Mathlib.Omega.{arith}
use Rattle.filed_entries.proofs.Marking.{starts_more}
use Rattle.filed_entries.proofs.vertices.mark_starts.Goals as goal

pub loop-j-preserved : goal.loop-j-preserved
loop-j-preserved c = rw c.start_in.ensures.is (starts_more c.loop-j.invariant (omega arith) (omega arith) (c.requires c.loop-j.j (omega arith)))
