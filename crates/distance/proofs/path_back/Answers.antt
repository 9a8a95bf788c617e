-- `distance::path_back` meets its contract. The loop's invariant: the trail is written up to the vertex at hand.
-- The measure is the room that is left. Assumes nothing.
use Prim.Native.Nat.{◌<◌}
use native.Mathlib.Omega.{arith}
use lib.ListN.{length, length-set}
use Rattle.distance.proofs.Trails.{following_none, following_inside, following_more, following_all}
use Rattle.distance.proofs.path_back.Goals as goal

pub loop-at-init : goal.loop-at-init
loop-at-init c = following_none c.requires

pub offset_bounds-last-at : goal.offset_bounds-last-at
offset_bounds-last-at c =
    let away : (c.loop-at.at < length c.args.last.now) × (c.loop-at.r < length c.loop-at.out) = following_inside c.loop-at.invariant c.loop-at-test.true in
    omega (arith, away)

pub bounds-last-at : goal.bounds-last-at
bounds-last-at c =
    let away : (c.loop-at.at < length c.args.last.now) × (c.loop-at.r < length c.loop-at.out) = following_inside c.loop-at.invariant c.loop-at-test.true in
    away.0

pub bounds-out-r : goal.bounds-out-r
bounds-out-r c =
    let away : (c.loop-at.at < length c.args.last.now) × (c.loop-at.r < length c.loop-at.out) = following_inside c.loop-at.invariant c.loop-at-test.true in
    away.1

pub loop-at-smaller : goal.loop-at-smaller
loop-at-smaller c =
    let away : (c.loop-at.at < length c.args.last.now) × (c.loop-at.r < length c.loop-at.out) = following_inside c.loop-at.invariant c.loop-at-test.true in
    simp length-set (omega (arith, away))

pub loop-at-preserved : goal.loop-at-preserved
loop-at-preserved c = following_more c.loop-at.invariant c.loop-at-test.true c.last_edge.ensures c.vertex_before-at.ensures

pub returns : goal.returns
returns c = following_all c.loop-at.invariant (omega arith)
