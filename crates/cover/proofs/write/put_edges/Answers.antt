-- `cover::write::put_edges` meets its contract. The loop's invariant: the edges of the trees so far are put.
-- Assumes nothing.
use native.Mathlib.Omega.{arith}
use Rattle.lists.specs.Segments.{segment}
use Rattle.lists.proofs.EachPlace.{made_flat}
use Rattle.cover.proofs.Writing.{none_put, next_room, next_put, all_put}
use Rattle.cover.proofs.ChosenBytes.{chosen_readable, edges_length}
use Rattle.cover.proofs.write.put_edges.Invariants.{fields}
use Rattle.cover.proofs.write.put_edges.Goals as goal

pub loop-c-init : goal.loop-c-init
loop-c-init c =
    none_put (fields c.args.bounds.now c.args.edges.now) c.args.chosen.now c.args.at c.args.buf.now
    (rw (made_flat (segment c.args.bounds.now c.args.edges.now) 0, edges_length c.args.bounds.now c.args.edges.now c.args.chosen.now c.requires.held) c.requires.fits)

pub edges_at-requires : goal.edges_at-requires
edges_at-requires c = chosen_readable c.args.chosen.now c.loop-c.c-index c.requires.held (omega arith) (omega arith)

pub put_list-next-requires : goal.put_list-next-requires
put_list-next-requires c = rw c.edges_at.ensures.is (next_room c.loop-c.invariant (omega arith))

pub loop-c-preserved : goal.loop-c-preserved
loop-c-preserved c = next_put c.loop-c.invariant (omega arith) (rw c.edges_at.ensures.is at c.put_list-next.ensures)

pub returns : goal.returns
returns c = rw (made_flat (segment c.args.bounds.now c.args.edges.now) 0) at (all_put c.loop-c.invariant (omega arith))
