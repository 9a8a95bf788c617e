-- `admit::vans::put_roots` meets its contract. The loop's invariant: the roots before j are written.
-- Assumes nothing.
use Prim.Native.Nat.{◌≤◌}
use lib.ListN.{length, drop}
use Rattle.lists.proofs.PutOneByOne.{PutSoFar}
use Rattle.rules.specs.Questions.{roots_by}
use Rattle.admit.specs.Brought.{lent}
use Rattle.admit.proofs.vans.put_roots.Given as goal

abbrev pub invariant-loop-j : goal.invariant-loop-j
invariant-loop-j l =
    record {
      room : l.k ≤ length l.out;
      putting : PutSoFar 0 (roots_by l.k (lent l.vans)) (drop l.j (roots_by l.k (lent l.vans))) l.initial.out l.out l.j;
    }
