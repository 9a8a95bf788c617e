-- `closed_walk::write::write_walk` meets its contract. The loop's invariant: the arrays say where the walk is after so many turns, and its stops are put.
-- Assumes nothing.
use Prim.Native.Nat.{◌+◌, ◌<◌}
use native.Mathlib.Omega.{arith}
use Rattle.graph.specs.Bytes.{graph_of}
use Rattle.graph.specs.Graph.{Graph}
use Rattle.rules.specs.Cover.{Tree}
use Rattle.closed_walk.specs.Turn.{tree_of}
use Rattle.closed_walk.proofs.StopsWritten.{room_around, shallow, walk_begun, turn_asked, stop_room, walk_further, walk_all}
use Rattle.closed_walk.proofs.write.write_walk.Goals as goal

pub put_around-requires : goal.put_around-requires
put_around-requires c = room_around c.requires

pub put_u16-next-requires : goal.put_u16-next-requires
put_u16-next-requires c = omega (arith, c.requires.fits)

pub loop-turn-init : goal.loop-turn-init
loop-turn-init c = walk_begun c.put_around.ensures.around c.requires.is_tree.start_inside c.put_u16-next.ensures

pub take_turn-depth-requires : goal.take_turn-depth-requires
take_turn-depth-requires c = turn_asked c.loop-turn.invariant c.put_u16-next.ensures c.requires

pub offset_bounds-way-depth : goal.offset_bounds-way-depth
offset_bounds-way-depth c = omega (arith, shallow c.requires (c.loop-turn._turn + 1) (c.take_turn-depth.ensures.further _ _ _ c.loop-turn.invariant.walking))

pub bounds-way-depth : goal.bounds-way-depth
bounds-way-depth c = omega (arith, shallow c.requires (c.loop-turn._turn + 1) (c.take_turn-depth.ensures.further _ _ _ c.loop-turn.invariant.walking))

pub put_u16-next-requires-in-loop-turn : goal.put_u16-next-requires-in-loop-turn
put_u16-next-requires-in-loop-turn c = stop_room c.loop-turn.invariant c.put_u16-next.ensures c.requires (omega arith)

pub loop-turn-preserved : goal.loop-turn-preserved
loop-turn-preserved c =
    walk_further c.loop-turn.invariant c.put_u16-next.ensures c.requires (omega arith)
    (c.take_turn-depth.ensures.further _ _ _ c.loop-turn.invariant.walking) c.wide.ensures.is c.put_u16-next-in-loop-turn.ensures

pub returns : goal.returns
returns c = walk_all c.loop-turn.invariant c.put_u16-next.ensures (omega (arith, c.loop-turn.invariant.within))
