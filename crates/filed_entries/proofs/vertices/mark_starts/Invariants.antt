-- `filed_entries::vertices::mark_starts` meets its contract. The loop's invariant: the starts before j are marked.
-- Assumes nothing.
use Rattle.filed_entries.specs.Vertices.{StartsMarked}
use Rattle.filed_entries.proofs.vertices.mark_starts.Given as goal

abbrev pub invariant-loop-j : goal.invariant-loop-j
invariant-loop-j l = StartsMarked l.c l.j l.initial.marks l.marks
