-- `closed_walk::run::read_run` meets its contract. The loop's invariant: the edges of the entries before i are put.
-- Assumes nothing.
use Prim.Native.Nat.{◌+◌, ◌-◌, ◌<◌}
use mathlib.Core.Path.{◌≡◌}
use native.Mathlib.Omega.{arith}
use lib.ListN.{length}
use Rattle.closed_walk.proofs.OneRun.{run_put_none, run_put_room, run_put_more, run_put_all}
use Rattle.closed_walk.proofs.run.read_run.Goals as goal

pub loop-i-init : goal.loop-i-init
loop-i-init c =
    let none : c.args.from - c.args.from ≡ 0 = omega arith in
    rw none (run_put_none _ _ _ _ c.requires.0.forward)

pub bounds-out-i : goal.bounds-out-i
bounds-out-i c = run_put_room _ c.loop-i.invariant c.requires.1 (omega arith)

pub loop-i-preserved : goal.loop-i-preserved
loop-i-preserved c =
    let room : c.loop-i.i - c.args.from < length c.loop-i.out = run_put_room _ c.loop-i.invariant c.requires.1 (omega arith) in
    let one_more : c.loop-i.i + 1 - c.args.from ≡ c.loop-i.i - c.args.from + 1 = omega arith in
    rw one_more (run_put_more _ c.loop-i.invariant c.entry_edge.ensures.is (omega arith) room)

pub returns : goal.returns
returns c =
    let end : c.loop-i.i ≡ c.args.to = omega (arith, c.loop-i.invariant.inside) in
    rw end at (run_put_all _ c.loop-i.invariant end)
