-- `forest::marks::all_marked` meets its contract. The loop's invariant: all that was passed, eight at a time, is marked. Assumes nothing.
use mathlib.Core.Path.{◌≡◌}
use Rattle.forest.proofs.EightMarks.{EightsPassed}
use Rattle.forest.proofs.marks.all_marked.Given as goal

abbrev pub invariant-loop-eight : goal.invariant-loop-eight
invariant-loop-eight l = record { size : l.eight-iterator.size ≡ 8; passed : EightsPassed l.marks l.n l.eight-iterator.rest.now }
