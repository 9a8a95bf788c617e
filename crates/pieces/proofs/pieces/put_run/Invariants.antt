-- `pieces::pieces::put_run` meets its contract. The loop's invariant: the numbers before c are written. Assumes nothing.
use Prim.Native.Nat.{◌+◌, ◌-◌, ◌≤◌}
use lib.ListN.{length}
use Rattle.lists.proofs.NextPlace.{below_from}
use Rattle.lists.proofs.PutOneByOne.{PutSoFar}
use Rattle.pieces.proofs.pieces.put_run.Given as goal

abbrev pub invariant-loop-c : goal.invariant-loop-c
invariant-loop-c l =
    record {
      room : l.next + (l.to - l.c) ≤ length l.out;
      putting : PutSoFar l.at (below_from l.to l.first) (below_from l.to l.c) l.initial.out l.out l.next;
    }
