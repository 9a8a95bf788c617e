-- `reply_text::trees::put_trees` meets its contract. The loop's invariant: the lines of the trees before j are written, and the entries of
-- tree j begin at `from`.
-- Assumes nothing.
use Prim.Native.Nat.{◌+◌, ◌≤◌}
use lib.ListN.{length}
use Rattle.lists.proofs.PutOneByOne.{PutSoFar}
use Rattle.cover.specs.Runs.{BeginsAt}
use Rattle.reply_text.specs.Text.{tree_lines}
use Rattle.reply_text.proofs.TreeLines.{trees_from}
use Rattle.reply_text.proofs.trees.put_trees.Given as goal

abbrev pub invariant-loop-j : goal.invariant-loop-j
invariant-loop-j l =
    record {
      begins : BeginsAt l.c l.j l.from;
      room : l.at + length (tree_lines l.g (trees_from l.c 0)) ≤ length l.initial.out;
      putting : PutSoFar l.at (tree_lines l.g (trees_from l.c 0)) (tree_lines l.g (trees_from l.c l.j)) l.initial.out l.out l.next;
    }
