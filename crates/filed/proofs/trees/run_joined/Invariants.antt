-- `filed::trees::run_joined` meets its contract. The loop's invariant: the edges of the entries before i are joined to the start.
-- Assumes nothing.
use Prim.Native.Nat.{◌≤◌}
use Rattle.filed.proofs.TreeTests.{HeldSoFar}
use Rattle.filed.proofs.trees.run_joined.Given as goal

abbrev pub invariant-loop-i : goal.invariant-loop-i
invariant-loop-i l = (l.from ≤ l.i) × HeldSoFar l.g l.c l.from l.home l.i l.initial.parents l.parents
