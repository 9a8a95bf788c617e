-- `cover::write::put_same` meets its contract. The loop's invariant: as many fields are put as turns are done.
-- Assumes nothing.
use mathlib.Core.List.{[], ◌∷◌}
use native.Mathlib.Omega.{arith}
use lib.ListN.{replicate, length-replicate}
use Rattle.cover.proofs.Writing.{no_fields, fields_behind, room_left, replicate_more, as_list}
use Rattle.cover.proofs.write.put_same.Goals as goal

pub loop-init : goal.loop-init
loop-init c = no_fields c.args.buf.now c.args.at (omega arith)

pub put_u16-next-requires : goal.put_u16-next-requires
put_u16-next-requires c = room_left (replicate c.loop.counter c.args.x) c.args.count 1 c.loop.invariant c.requires (omega (arith, length-replicate c.loop.counter c.args.x))

pub loop-preserved : goal.loop-preserved
loop-preserved c = rw replicate_more (fields_behind (replicate c.loop.counter c.args.x) (c.args.x ∷ []) c.loop.invariant (as_list c.args.x c.put_u16-next.ensures))
