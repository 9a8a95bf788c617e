-- `cover::heaviest::run_weight` meets its contract. The loop's invariant: the sum is the weight of the entries before i, less than 2^33 for each.
-- Assumes nothing.
use Prim.Native.Nat.{◌*◌, ◌≤◌}
use mathlib.Core.Path.{◌≡◌}
use Rattle.graph.specs.Bytes.{graph_of}
use Rattle.rules.specs.Walk.{total_weight}
use Rattle.cover.specs.Runs.{run_edges}
use Rattle.cover.proofs.heaviest.run_weight.Given as goal

abbrev pub invariant-loop-i : goal.invariant-loop-i
invariant-loop-i l = (l.sum ≤ 8589934592 * l.i) × (l.sum ≡ total_weight l.g (run_edges l.c l.from l.i))
