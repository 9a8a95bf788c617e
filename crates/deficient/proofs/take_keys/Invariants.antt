-- `deficient::take_keys` meets its contract. The loop's invariant: the trees before i have their keys.
-- Assumes nothing.
use mathlib.Core.List.{head_d}
use Rattle.lists.specs.Segments.{segment}
use Rattle.lists.proofs.SetUpTo.{SetUpTo}
use Rattle.deficient.proofs.take_keys.Given as goal

abbrev pub invariant-loop-i : goal.invariant-loop-i
invariant-loop-i l = SetUpTo (λ h. head_d (segment l.bounds l.edges h) 0) l.i l.initial.keys l.keys
