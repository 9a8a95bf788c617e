-- `deficient::take_starts` meets its contract. The loop's invariant: the starts of the pieces before i are written.
-- Assumes nothing.
use mathlib.Core.Path.{◌≡◌}
use mathlib.Core.List.{map}
use lib.ListN.{length, get_or, take}
use Rattle.lists.specs.Put.{PutTo}
use Rattle.deficient.proofs.take_starts.Given as goal

abbrev pub invariant-loop-i : goal.invariant-loop-i
invariant-loop-i l =
    record {
      size : length l.laid ≡ length l.initial.laid;
      putting : PutTo 0 (map (λ c. get_or l.starts c 0) (take l.i l.chosen)) l.initial.laid l.laid l.i;
    }
