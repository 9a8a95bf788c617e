-- `cover::write::entry_count` meets its contract. The loop's invariant: the sum is that of the trees so far.
-- Assumes nothing.
use mathlib.Core.Path.{◌≡◌}
use lib.ListN.{take}
use Rattle.cover.specs.Chosen.{entry_count}
use Rattle.cover.proofs.write.entry_count.Given as goal

abbrev pub invariant-loop-c : goal.invariant-loop-c
invariant-loop-c l = l.sum ≡ entry_count l.bounds (take l.c-index l.chosen)
