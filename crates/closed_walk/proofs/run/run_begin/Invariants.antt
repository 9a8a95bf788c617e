-- `closed_walk::run::run_begin` meets its contract. The loop's invariant: the entries before i name trees before j.
-- Assumes nothing.
use Prim.Native.Nat.{ℕ, ◌<◌}
use Rattle.rules.specs.CoverBytes.{entry_tree}
use Rattle.closed_walk.proofs.run.run_begin.Given as goal

abbrev pub invariant-loop-i : goal.invariant-loop-i
invariant-loop-i l = (k : ℕ) → k < l.i → entry_tree l.c k < l.j
