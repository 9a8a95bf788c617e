-- `cover::write::put_tree_numbers` meets its contract. The loop's invariant: the numbers of the first j trees are put.
-- Assumes nothing.
use native.Mathlib.Omega.{arith}
use lib.ListN.{get_or, length-replicate}
use Rattle.cover.specs.Chosen.{size_at}
use Rattle.cover.proofs.Writing.{none_put, next_room, next_put, all_put}
use Rattle.cover.proofs.ChosenBytes.{numbers_made, numbers_length}
use Rattle.cover.proofs.write.put_tree_numbers.Invariants.{numbers}
use Rattle.cover.proofs.write.put_tree_numbers.Goals as goal

pub loop-j-init : goal.loop-j-init
loop-j-init c = none_put (numbers c.args.bounds.now) c.args.chosen.now c.args.at c.args.buf.now (rw (numbers_made c.args.bounds.now, numbers_length) c.requires)

pub put_same-next-requires : goal.put_same-next-requires
put_same-next-requires c =
    omega (
      arith,
      c.size_at.ensures.is,
      next_room c.loop-j.invariant (omega arith),
      length-replicate (size_at c.args.bounds.now (get_or c.args.chosen.now c.loop-j.j 0)) c.loop-j.j,
    )

pub loop-j-preserved : goal.loop-j-preserved
loop-j-preserved c = next_put c.loop-j.invariant (omega arith) (rw c.size_at.ensures.is at c.put_same-next.ensures)

pub returns : goal.returns
returns c = rw (numbers_made c.args.bounds.now) at (all_put c.loop-j.invariant (omega arith))
