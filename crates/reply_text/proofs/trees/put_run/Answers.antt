-- `reply_text::trees::put_run` meets its contract. The loop's invariant: the edges of the entries before i are written.
-- Assumes nothing.
use native.Mathlib.Omega.{arith}
use Rattle.lists.proofs.PutOneByOne.{so_far_on, so_far_all, so_far_room}
use Rattle.reply_text.specs.Lines.{spaced}
use Rattle.reply_text.proofs.TreeLines.{run_spaced, run_done}
use Rattle.reply_text.proofs.trees.put_run.Goals as goal

pub put_spaced-next-requires : goal.put_spaced-next-requires
put_spaced-next-requires c =
    so_far_room c.loop-i.invariant.putting (spaced c.entry_edge.result) _
    (run_spaced c.args.c.now c.loop-i.i c.args.to c.entry_edge.result c.entry_edge.ensures.is (omega arith)) c.loop-i.invariant.room

pub loop-i-preserved : goal.loop-i-preserved
loop-i-preserved c =
    record {
      room = c.loop-i.invariant.room;
      putting =
          so_far_on c.loop-i.invariant.putting
          (run_spaced c.args.c.now c.loop-i.i c.args.to c.entry_edge.result c.entry_edge.ensures.is (omega arith)) c.put_spaced-next.ensures;
    }

pub returns : goal.returns
returns c = so_far_all c.loop-i.invariant.putting (run_done c.args.c.now c.loop-i.i c.args.to (omega arith))
