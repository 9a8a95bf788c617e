-- `cover::heaviest::heaviest_chosen` meets its contract. The loop's invariant: `most` is the heaviest of the trees so far.
-- Assumes nothing.
use mathlib.Core.Path.{◌≡◌}
use Rattle.graph.specs.Bytes.{graph_of}
use Rattle.cover.proofs.Weights.{heaviest_of_first}
use Rattle.cover.proofs.heaviest.heaviest_chosen.Given as goal

abbrev pub invariant-loop-c : goal.invariant-loop-c
invariant-loop-c l = l.most ≡ heaviest_of_first l.g l.bounds l.edges l.chosen l.c-index
