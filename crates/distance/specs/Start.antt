-- The start of a search for distances.
-- Assumes nothing.
use Rattle.std.specs.Prelude.{ℕ, ◌≤◌, ◌<◌, ◌≡◌, List, length, get_or}
use Rattle.lists.specs.Put.{OnlyFirst}
use Rattle.distance.specs.Shortest.{unreached}

-- What the start of a search asks.
pub record Startable (n root : ℕ) (dist : List ℕ) : Type 0 where
  pub root_inside : root < n
  pub dist_room : n ≤ length dist

-- At the start the root alone is reached.
pub record Started (n root : ℕ) (dist dist_after : List ℕ) : Type 0 where
  pub root_zero : get_or dist_after root 0 ≡ 0
  pub others : (v : ℕ) → v < n → (v ≡ root → ⊥) → get_or dist_after v 0 ≡ unreached
  pub rest : OnlyFirst n dist dist_after
