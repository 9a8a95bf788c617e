-- `filed::trees::trees_right` meets its contract. The loop's invariant: every tree before j is right, and the entries of tree j begin at `from`.
-- Assumes nothing.
use Prim.Native.Nat.{ℕ, ◌<◌}
use mathlib.Core.Path.{◌≡◌}
use mathlib.Core.Bool.{true}
use lib.ListN.{length}
use Rattle.rules.specs.CoverBytes.{tree_in}
use Rattle.rules.specs.CheckCover.{tree_right}
use Rattle.cover.specs.Runs.{BeginsAt}
use Rattle.filed.proofs.trees.trees_right.Given as goal

abbrev pub invariant-loop-j : goal.invariant-loop-j
invariant-loop-j l = (length l.parents ≡ length l.initial.parents) × BeginsAt l.c l.j l.from × ((k : ℕ) → k < l.j → tree_right l.g (tree_in l.c k) ≡ true)
