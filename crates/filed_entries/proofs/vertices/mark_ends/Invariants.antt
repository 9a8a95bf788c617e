-- `filed_entries::vertices::mark_ends` meets its contract. The loop's invariant: the ends of the edges of the entries before i are marked.
-- Assumes nothing.
use Rattle.graph.specs.Bytes.{graph_of}
use Rattle.filed_entries.specs.Vertices.{EndsMarked}
use Rattle.filed_entries.proofs.vertices.mark_ends.Given as goal

abbrev pub invariant-loop-i : goal.invariant-loop-i
invariant-loop-i l = EndsMarked l.g l.c l.i l.initial.marks l.marks
