-- `mark` meets its contract. The loop's invariant: exactly the parts passed are marked.
-- Assumes nothing.
use Rattle.matching.specs.Marks.{Marks}
use Rattle.matching.proofs.deficient.mark.Given as goal

abbrev pub invariant-loop-part : goal.invariant-loop-part
invariant-loop-part l = Marks l.p l.part-index l.parts l.initial.out l.out
