-- `closed_walk::run::read_run` meets its contract. The loop's invariant: the edges of the entries before i are put.
-- Assumes nothing.
use Prim.Native.Nat.{◌-◌}
use Rattle.closed_walk.proofs.OneRun.{RunPut}
use Rattle.closed_walk.proofs.run.read_run.Given as goal

abbrev pub invariant-loop-i : goal.invariant-loop-i
invariant-loop-i l = RunPut l.c l.from l.to l.initial.out l.out (l.i - l.from) l.i
