-- `reply_text::trees::put_run` meets its contract. The loop's invariant: the edges of the entries before i are written.
-- Assumes nothing.
use Prim.Native.Nat.{◌+◌, ◌≤◌}
use lib.ListN.{length}
use Rattle.lists.proofs.PutOneByOne.{PutSoFar}
use Rattle.cover.specs.Runs.{run_edges}
use Rattle.reply_text.specs.Lines.{all_spaced}
use Rattle.reply_text.proofs.trees.put_run.Given as goal

abbrev pub invariant-loop-i : goal.invariant-loop-i
invariant-loop-i l =
    record {
      room : l.at + length (all_spaced (run_edges l.c l.from l.to)) ≤ length l.initial.out;
      putting : PutSoFar l.at (all_spaced (run_edges l.c l.from l.to)) (all_spaced (run_edges l.c l.i l.to)) l.initial.out l.out l.next;
    }
