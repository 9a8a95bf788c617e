-- `solve` meets its contract. The loop's invariant: the parts before i have roots, all apart and allowed.
-- Assumes nothing.
use mathlib.Core.Path.{◌≡◌}
use lib.ListN.{length}
use Rattle.lists.specs.Put.{OnlyFirst}
use Rattle.matching.specs.Input.{allowed_at}
use Rattle.matching.specs.State.{Mirror, May}
use Rattle.matching.proofs.solve.Given as goal

abbrev pub invariant-loop-i : goal.invariant-loop-i
invariant-loop-i l =
    record {
      mirror : Mirror l.i l.owner l.out;
      may : May l.y (allowed_at l.allowed l.y) l.i l.out;
      rest : OnlyFirst l.p l.initial.out l.out;
      size : length l.out ≡ length l.initial.out;
    }
