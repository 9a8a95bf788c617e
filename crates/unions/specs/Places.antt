-- The numbers between others: the places of the parts, between those of the leftovers.
-- Assumes nothing.
use Rattle.std.specs.Prelude.{ℕ, ◌+◌, ◌-◌, List, [], ◌∷◌, ◌++◌}
use Rattle.lists.specs.Count.{from}

-- The numbers from the first one on up to the last of a rising list, without those of the list.
unfoldable pub places_between : ℕ → List ℕ → List ℕ
places_between first [] = []
places_between first (l ∷ ls) = from first (l - first) ++ places_between (l + 1) ls
