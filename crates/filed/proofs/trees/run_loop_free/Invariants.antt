-- `filed::trees::run_loop_free` meets its contract. The loop's invariant: the entries before i are taken.
-- Assumes nothing.
use Rattle.filed.proofs.RunTests.{RunSoFar}
use Rattle.filed.proofs.trees.run_loop_free.Given as goal

abbrev pub invariant-loop-i : goal.invariant-loop-i
invariant-loop-i l = RunSoFar l.g l.c l.from l.to l.i l.initial.parents l.parents
