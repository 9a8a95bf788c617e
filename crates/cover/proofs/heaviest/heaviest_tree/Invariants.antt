-- `cover::heaviest::heaviest_tree` meets its contract. The loop's invariant: `most` is the heaviest of the trees before j, and the entries of
-- tree j begin at `from`.
-- Assumes nothing.
use mathlib.Core.Path.{◌≡◌}
use Rattle.graph.specs.Bytes.{graph_of}
use Rattle.cover.specs.Runs.{BeginsAt}
use Rattle.cover.proofs.Weights.{heaviest_before}
use Rattle.cover.proofs.heaviest.heaviest_tree.Given as goal

abbrev pub invariant-loop-j : goal.invariant-loop-j
invariant-loop-j l = BeginsAt l.c l.j l.from × (l.most ≡ heaviest_before l.g l.c l.j)
