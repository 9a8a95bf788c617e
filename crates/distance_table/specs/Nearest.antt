-- The vertex of a part that is nearest to a root, by the row of the distances from it (document 01, step 5: "the part's nearest stop").
-- Assumes nothing.
use Rattle.std.specs.Prelude.{ℕ, ◌≤◌, ◌<◌, List, length, get_or}
use Rattle.lists.specs.Member.{◌∈◌}
use Rattle.graph.specs.Graph.{Graph}
use Rattle.graph.specs.Valid.{Valid}
use Rattle.rules.specs.Cover.{Tree}
use Rattle.rules.specs.Distance.{tree_vertices}

-- The row has the distances of two vertices.
pub record LookGiven (dist : List ℕ) (u v : ℕ) : Type 0 where
  pub one : u < length dist
  pub other : v < length dist

-- What is asked: a valid graph, a distance for each of its vertices, and a start among them.
pub record NearestGiven (g : Graph) (dist : List ℕ) (start : ℕ) : Type 0 where
  pub valid : Valid g
  pub room : g.vertices ≤ length dist
  pub start_inside : start < g.vertices

-- r is a vertex that the tree covers, and none of those is nearer to the root.
pub record Nearest (g : Graph) (dist : List ℕ) (t : Tree) (r : ℕ) : Type 0 where
  pub covered : r ∈ tree_vertices g t
  pub nearest : (v : ℕ) → v ∈ tree_vertices g t → get_or dist r 0 ≤ get_or dist v 0
  pub inside : r < g.vertices
