-- The places of the parts are the numbers between those of the leftovers.
-- Assumes nothing.
use Prim.Native.Nat.{ℕ, ◌+◌, ◌-◌, ◌≤◌, ◌<◌}
use mathlib.Core.Path.{◌≡◌, refl, ap}
use mathlib.Core.List.{List, [], ◌∷◌, ◌++◌}
use native.Mathlib.Numerals.{add-one}
use native.Mathlib.Omega.{arith}
use lib.ListN.{length, get_or, drop, drop_of_length-le}
use lib.Seq.{drop-cons}
use Rattle.lists.specs.Count.{from}
use Rattle.rules.specs.Split.{Pieces}
use Rattle.split.specs.Pieces.{left_places, part_places}
use Rattle.unions.specs.Places.{places_between}

-- The places of the parts are the numbers between the leftovers'.
pub between_lefts : (ps : List Pieces) (first : ℕ) → places_between first (left_places first ps) ≡ part_places first ps
unfolding places_between left_places part_places
between_lefts [] first = refl
between_lefts (p ∷ ps) first =
    let m = length p.parts in
    let q : first + m - first ≡ m = omega arith in
    rw q (ap (λ l. from first m ++ l) (between_lefts ps (first + m + 1)))

-- One leftover more, and none.
pub between_next : (first : ℕ) (lefts : List ℕ) (j : ℕ) → j < length lefts
    → places_between first (drop j lefts) ≡ from first (get_or lefts j 0 - first) ++ places_between (get_or lefts j 0 + 1) (drop (j + 1) lefts)
unfolding places_between
between_next first lefts j h = rw (add-one j, drop-cons lefts j 0)

pub between_none : (first : ℕ) (lefts : List ℕ) (j : ℕ) → length lefts ≤ j → places_between first (drop j lefts) ≡ []
unfolding places_between
between_none first lefts j h = rw (drop_of_length-le lefts h)
