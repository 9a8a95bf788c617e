-- The roots near each vertex, by a table of distances.
-- Assumes nothing.
use Rattle.std.specs.Prelude.{ℕ, ◌+◌, ◌*◌, ◌-◌, ◌^◌, ◌≤◌, ◌<◌, ◌≡◌, Bool, cond, List, leb, length, get_or}
use Rattle.distance_table.specs.Tabled.{distance_in}
use Rattle.near.specs.Bits.{bit_at}

-- What adding a root asks: a distance for each word, and room for one bit more in each.
pub record RootAsked (row near : List ℕ) : Type 0 where
  pub room : length near ≤ length row
  pub low : (v : ℕ) → v < length near → get_or near v 0 < 2147483648

-- Each word is doubled, with one more where the root's distance is within the limit: its bits went up by one, and the first is the root's.
pub record RootAdded (limit : ℕ) (row before after : List ℕ) : Type 0 where
  pub size : length after ≡ length before
  pub each : (v : ℕ) → v < length before → get_or after v 0 ≡ 2 * get_or before v 0 + cond (leb (get_or row v 0) limit) 1 0

-- From root `from` to root `to` each is at the vertex of the next.
pub record RunFound (roots : List ℕ) (to from : ℕ) : Type 0 where
  pub within : from ≤ to
  pub same : (i : ℕ) → from ≤ i → i < to → get_or roots i 0 ≡ get_or roots (i + 1) 0

-- A word with r bits more, which come first and are all the same.
abbrev pub with_run : ℕ → Bool → ℕ → ℕ
with_run r t word = word * 2 ^ r + cond t (2 ^ r - 1) 0

-- What adding a run of r roots asks: a distance for each word, and room for r bits more in each.
pub record RunAsked (r : ℕ) (row near : List ℕ) : Type 0 where
  pub few : r ≤ 32
  pub room : length near ≤ length row
  pub low : (v : ℕ) → v < length near → get_or near v 0 < 2 ^ (32 - r)

-- Each word has r bits more, which say whether the distance is within the limit.
pub record RunAdded (r limit : ℕ) (row before after : List ℕ) : Type 0 where
  pub size : length after ≡ length before
  pub each : (v : ℕ) → v < length before → get_or after v 0 ≡ with_run r (leb (get_or row v 0) limit) (get_or before v 0)

-- What is asked: at most 32 roots, a row of the table for each, and words of zero. Roots side by side at one vertex have the same distances.
pub record NearAsked (k : ℕ) (distances near roots : List ℕ) : Type 0 where
  pub roots_few : k ≤ 32
  pub roots_given : k ≤ length roots
  pub room : k * length near ≤ length distances
  pub zeros : (v : ℕ) → v < length near → get_or near v 0 ≡ 0
  pub same_rows : (j : ℕ) → j + 1 < k → get_or roots j 0 ≡ get_or roots (j + 1) 0
      → (v : ℕ) → v < length near → distance_in distances (length near) v j ≡ distance_in distances (length near) v (j + 1)

-- Each word says which of k roots are within the limit of its vertex.
pub record NearVertices (k limit : ℕ) (distances before after : List ℕ) : Type 0 where
  pub size : length after ≡ length before
  pub each : (v j : ℕ) → v < length before → j < k → bit_at j (get_or after v 0) ≡ leb (distance_in distances (length before) v j) limit
