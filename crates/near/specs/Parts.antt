-- The roots near each part, in one pass over the steps of the trees.
-- Assumes nothing.
use Rattle.std.specs.Prelude.{ℕ, ◌≤◌, ◌<◌, ◌≡◌, Bool, List, map, length, get_or, take}
use Rattle.lists.specs.Put.{OnlyFirst}
use Rattle.steps.specs.Touched.{parts_touched}
use Rattle.steps.specs.StepsPut.{Countable}
use Rattle.near.specs.Bits.{bit_at}

-- What is asked: steps among 256 vertices, a threshold above 0, a word for each vertex, and room for a word for each part.
pub record NearPartsAsked (H : ℕ) (steps near parts : List ℕ) : Type 0 where
  pub countable : Countable H steps
  pub threshold_some : 0 < H
  pub near_room : 256 ≤ length near
  pub parts_room : (test : ℕ → Bool) → length (parts_touched H test steps) ≤ length parts

-- The first r words are the parts', in the order in which they are split off: root j is near a part where it is near one of its vertices.
pub record NearParts (H : ℕ) (steps near before after : List ℕ) (r : ℕ) : Type 0 where
  pub each : (j : ℕ) → map (bit_at j) (take r after) ≡ parts_touched H (λ v. bit_at j (get_or near v 0)) steps
  pub within : r ≤ length before
  pub rest : OnlyFirst r before after
