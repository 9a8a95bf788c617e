-- The lowest vertices, as the code answers them, and the definitions that the answers equal.
-- Assumes nothing.
use Rattle.std.specs.Prelude.{ℕ, ◌≤◌, ◌<◌, ◌≡◌, Option, Some, None, length, get_or}
use mathlib.Core.List.{List, head_d}
use Rattle.std.proofs.Math.Option as math
use Rattle.lists.specs.Put.{PutTo}
use Rattle.graph.specs.Graph.{Graph}
use Rattle.rules.specs.Labels.{Labels}
use Rattle.rules.specs.Forest.{unjoined, lowest}
use Rattle.forest.specs.Arrays.{Agrees}

-- What the code's answer says: a vertex, or none.
abbrev pub vertex_in : Option ℕ → math.Option ℕ
vertex_in (Some v) = math.some v
vertex_in None = math.none

-- The answer is "stop v", the lowest vertex joined to no root, in every graph of n vertices whose first root is this one.
pub record Unjoined (array : List ℕ) (n root : ℕ) (r : Option ℕ) : Type 0 where
  pub is : (g : Graph) (roots : List ℕ) (label : Labels) → g.vertices ≡ n → head_d roots 0 ≡ root → Agrees n array label
      → vertex_in r ≡ unjoined g roots label

-- The array has a label of each of n vertices, at most the 256 that a graph has; the label is a vertex; and there is room for as many.
pub record LowestAsked (array : List ℕ) (n : ℕ) (out : List ℕ) : Type 0 where
  pub most : n ≤ 256
  pub labels_room : n ≤ length array
  pub labels_below : (v : ℕ) → v < n → get_or array v 0 < n
  pub room : n ≤ length out

-- The lowest vertex of each component was written, rising, in every graph of n vertices. There are at most n components.
pub record Components (array : List ℕ) (n : ℕ) (before after : List ℕ) (r : ℕ) : Type 0 where
  pub few : r ≤ n
  pub are : (g : Graph) (label : Labels) → g.vertices ≡ n → Agrees n array label → PutTo 0 (lowest g label) before after r
