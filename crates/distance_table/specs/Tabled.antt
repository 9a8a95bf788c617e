-- The distances from all roots in one table, and the last edges of the shortest paths (document 01, step 5). Both stand root by root.
-- Assumes nothing.
use Rattle.std.specs.Prelude.{ℕ, ◌+◌, ◌*◌, ◌≤◌, ◌<◌, List, length, get_or, take, drop}
use Rattle.std.proofs.Math.Option.{none}
use Rattle.graph.specs.Graph.{Graph}
use Rattle.rules.specs.Distance.{distances as distances_from}
use Rattle.distance.specs.Shortest.{SaysDistance, Shortest}

-- The distance of vertex v, of n vertices, from root j.
abbrev pub distance_in : List ℕ → ℕ → ℕ → ℕ → ℕ
distance_in distances n v j = get_or distances (j * n + v) 0

-- The row of root j: the n elements from j * n on.
abbrev pub row_of : ℕ → List ℕ → ℕ → List ℕ
row_of n rows j = take n (drop (j * n) rows)

-- The table has the distance of each vertex from each root: that of vertex v from root j at j * n + v, of n vertices.
pub record DistancesTabled (g : Graph) (roots distances : List ℕ) : Type 0 where
  pub room : length roots * g.vertices ≤ length distances
  pub each : (v j : ℕ) → v < g.vertices → j < length roots
      → SaysDistance (distance_in distances g.vertices v j) (get_or (distances_from g (get_or roots j 0)) v none)

-- The last edges of each root lead back to it along paths of the distances that the table says.
pub record LastsTabled (g : Graph) (roots distances lasts : List ℕ) : Type 0 where
  pub room : length roots * g.vertices ≤ length lasts
  pub each : (j : ℕ) → j < length roots → Shortest g (get_or roots j 0) (row_of g.vertices distances j) (row_of g.vertices lasts j)
