-- `unions::deficient::marked_places` meets its contract. The loop's invariant: the places of the marked parts before i are written.
-- Assumes nothing.
use Prim.Native.Nat.{ℕ, ◌≤◌}
use mathlib.Core.List.{List, map}
use lib.ListN.{length, get_or}
use Rattle.lists.specs.Lists.{filter}
use Rattle.lists.proofs.NextPlace.{below_from}
use Rattle.lists.proofs.PutOneByOne.{PutSoFar}
use Rattle.matching.specs.Assignment.{marked}
use Rattle.unions.proofs.deficient.marked_places.Given as goal

-- The places of the marked parts from i on.
abbrev pub placesFrom : List ℕ → List ℕ → ℕ → List ℕ
placesFrom places marks i = map (λ k. get_or places k 0) (filter (marked marks) (below_from (length places) i))

abbrev pub invariant-loop-i : goal.invariant-loop-i
invariant-loop-i l =
    record {
      few : l.r ≤ l.i;
      within : l.i ≤ length l.places;
      putting : PutSoFar 0 (placesFrom l.places l.marks 0) (placesFrom l.places l.marks l.i) l.initial.out l.out l.r;
    }
