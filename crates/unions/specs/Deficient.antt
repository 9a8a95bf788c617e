-- The parts of a deficient set, and the roots allowed to them (document 01, step 5: "too low, parts T, yards D").
-- Assumes nothing.
use Rattle.std.specs.Prelude.{ℕ, ◌*◌, ◌≤◌, ◌<◌, ◌≡◌, List, map, length, get_or}
use Rattle.lists.specs.Count.{below}
use Rattle.lists.specs.Lists.{filter}
use Rattle.lists.specs.Put.{PutTo}
use Rattle.matching.specs.Assignment.{marked, marked_parts}

-- The places of the marked parts, in order.
abbrev pub places_marked : List ℕ → List ℕ → List ℕ
places_marked places marks = map (λ i. get_or places i 0) (filter (marked marks) (below (length places)))

-- They were written, as many as there are parts in the set.
pub record PlacesWritten (places marks before after : List ℕ) (r : ℕ) : Type 0 where
  pub places_are : PutTo 0 (places_marked places marks) before after r
  pub count : r ≡ marked_parts (length places) marks

-- There is a row of k bytes for each of p parts, and j is one of the k roots.
pub record ColumnGiven (rows : List ℕ) (p k j : ℕ) : Type 0 where
  pub room : p * k ≤ length rows
  pub root : j < k
