-- Roots at one vertex have the same distances: a number that says a distance is determined by it.
-- Assumes nothing.
use Prim.Native.Nat.{ℕ, ◌<◌}
use mathlib.Core.Path.{◌≡◌}
use mathlib.Core.List.{List}
use lib.ListN.{length, get_or}
use Rattle.graph.specs.Graph.{Graph}
use Rattle.rules.specs.Distance.{Distance}
use Rattle.distance.specs.Shortest.{SaysDistance, nowhere, there}
use Rattle.distance_table.specs.Tabled.{distance_in, DistancesTabled}

says_same : {x y : ℕ} {d : Distance} → SaysDistance x d → SaysDistance y d → x ≡ y
says_same (nowhere p q) (nowhere s t) = cc
says_same (nowhere p q) (there s t) = cc
says_same (there p q) (nowhere s t) = cc
says_same (there p q) (there s t) = cc

pub rows_alike : {g : Graph} {roots distances : List ℕ} → DistancesTabled g roots distances → (i j : ℕ) → i < length roots → j < length roots
    → get_or roots i 0 ≡ get_or roots j 0 → (v : ℕ) → v < g.vertices → distance_in distances g.vertices v i ≡ distance_in distances g.vertices v j
rows_alike {g} {roots} tabled i j h l q v inside =
    let one : get_or roots i 0 ≡ get_or roots j 0 = q in says_same (rw one at (tabled.each v i inside h)) (tabled.each v j inside l)
