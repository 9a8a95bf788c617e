-- `bunches::piece::copy_edges` meets its contract. The loop's invariant: the edges before i are put. Assumes nothing.
use Prim.Native.Nat.{◌+◌}
use lib.ListN.{take}
use Rattle.lists.specs.Put.{PutTo}
use Rattle.bunches.proofs.piece.copy_edges.Given as goal

abbrev pub invariant-loop-i : goal.invariant-loop-i
invariant-loop-i l = PutTo l.used (take l.i l.edges) l.initial.members l.members (l.used + l.i)
