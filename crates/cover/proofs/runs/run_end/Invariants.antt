-- `cover::runs::run_end` meets its contract. The loop's invariant: the entries before i name tree j.
-- Assumes nothing.
use Prim.Native.Nat.{ℕ, ◌≤◌, ◌<◌}
use mathlib.Core.Path.{◌≡◌}
use Rattle.rules.specs.CoverBytes.{entry_tree}
use Rattle.cover.proofs.runs.run_end.Given as goal

abbrev pub invariant-loop-i : goal.invariant-loop-i
invariant-loop-i l = (k : ℕ) → k < l.i → l.from ≤ k → entry_tree l.c k ≡ l.j
