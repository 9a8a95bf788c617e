-- A set of parts written as marks: 1 for each part of it, 0 for the others.
-- Assumes nothing.
use Rattle.std.specs.Prelude.{ℕ, ◌<◌, ◌≤◌, ◌≡◌, List, length, get_or}
use Rattle.lists.specs.Put.{OnlyFirst}

-- The first t of `parts` are parts, below p, and p bytes can be written.
pub record Markable (p t : ℕ) (parts out : List ℕ) : Type 0 where
  pub fits : p ≤ length out
  pub few : t ≤ 33
  pub below : (a : ℕ) → a < t → get_or parts a 0 < p

-- Exactly the first t of `parts` are marked among the first p bytes, the rest is as it came.
pub record Marks (p t : ℕ) (parts before after : List ℕ) : Type 0 where
  pub mark : (k : ℕ) → k < p → get_or after k 0 < 2
  pub all : (a : ℕ) → a < t → get_or after (get_or parts a 0) 0 ≡ 1
  pub only : (k : ℕ) → k < p → get_or after k 0 ≡ 1 → (a : ℕ) × (a < t) × (get_or parts a 0 ≡ k)
  pub rest : OnlyFirst p before after
