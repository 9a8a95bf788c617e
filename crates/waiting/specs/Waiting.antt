-- Who waits, in an array of keys: of a vertex that is reached and not settled the key, of any other `nobody`. The keys stand in sixteen
-- blocks of sixteen, and a second array has the least of each block.
-- Assumes nothing.
use Rattle.std.specs.Prelude.{ℕ, ◌+◌, ◌*◌, ◌/◌, ◌%◌, ◌≤◌, ◌<◌, ◌≡◌, List, length, get_or, set}

-- The key of a vertex at a distance: both in one number, so that a lower key is never farther.
unfoldable pub key_of : ℕ → ℕ → ℕ
key_of distance v = 65536 * distance + v

unfoldable pub vertex_of : ℕ → ℕ
vertex_of key = key % 65536

-- What stands for a vertex that does not wait. Every key is below it.
abbrev pub nobody : ℕ
nobody = 18446744073709551615

-- r is the least of so many keys from a place on.
pub record LeastFrom (keys : List ℕ) (from many r : ℕ) : Type 0 where
  pub lowest : (i : ℕ) → from ≤ i → i < from + many → r ≤ get_or keys i 0
  pub place : ℕ
  pub after : from ≤ place
  pub before : place < from + many
  pub is : get_or keys place 0 ≡ r

-- x is the key of a vertex of block g.
pub record InBlock (wait : List ℕ) (g x : ℕ) : Type 0 where
  pub vertex : ℕ
  pub block : vertex / 16 ≡ g
  pub is : get_or wait vertex 0 ≡ x

-- The second array has the least key of each block.
pub record Blocks (wait low : List ℕ) : Type 0 where
  pub wait_size : length wait ≡ 256
  pub low_size : length low ≡ 16
  pub lowest : (v : ℕ) → v < 256 → get_or low (v / 16) 0 ≤ get_or wait v 0
  pub held : (g : ℕ) → g < 16 → InBlock wait g (get_or low g 0)

-- What a vertex that comes to wait asks: its key is no higher than what stands for it.
pub record KeyGiven (v key : ℕ) (wait low : List ℕ) : Type 0 where
  pub vertex : v < 256
  pub blocks : Blocks wait low
  pub no_higher : key ≤ get_or wait v 0

-- Vertex v has this key now, and all others have what they had; so have all blocks but its own.
pub record KeyPut (v key : ℕ) (wait wait_after low low_after : List ℕ) : Type 0 where
  pub stored : wait_after ≡ set wait v key
  pub blocks : Blocks wait_after low_after
  pub low_stored : low_after ≡ set low (v / 16) (get_or low_after (v / 16) 0)
