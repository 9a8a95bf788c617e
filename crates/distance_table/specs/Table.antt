-- The rows of the distances from all roots, and of their last edges, filled (document 01, step 5).
-- Assumes nothing.
use Rattle.std.specs.Prelude.{ℕ, ◌*◌, ◌≤◌, ◌<◌, ◌≡◌, List, length, get_or}
use Rattle.lists.specs.Count.{below}
use Rattle.lists.specs.Put.{OnlyFirst}
use Rattle.graph.specs.Graph.{Graph, edge_count}
use Rattle.edges.specs.Around.{Arcs, Around}
use Rattle.distance_table.specs.Tabled.{DistancesTabled, LastsTabled}

-- r is the first root at the vertex of root j.
pub record FirstAt (roots : List ℕ) (j r : ℕ) : Type 0 where
  pub within : r ≤ j
  pub same : get_or roots r 0 ≡ get_or roots j 0
  pub first : (i : ℕ) → i < r → get_or roots i 0 ≡ get_or roots j 0 → ⊥

-- What filling the table asks: arcs of n vertices, the roots among them, and room for n distances and last edges for each.
pub record TableAsked (n : ℕ) (bounds arcs roots : List ℕ) (distances lasts : ℕ) : Type 0 where
  pub sound : Arcs n bounds arcs
  pub roots_inside : (j : ℕ) → j < length roots → get_or roots j 0 < n
  pub distances_room : length roots * n ≤ distances
  pub lasts_room : length roots * n ≤ lasts

-- The table has the distances of the graph from all roots, and the last edges lead back along paths of these distances.
pub record Tabled (g : Graph) (roots distances lasts : List ℕ) : Type 0 where
  pub distances_are : DistancesTabled g roots distances
  pub last_edges : LastsTabled g roots distances lasts

-- What filling promises: of whatever graph the arcs are, the table and the last edges are its own. What stands behind the rows is as it came.
pub record TableFilled (n : ℕ) (bounds arcs roots distances table_after lasts lasts_after : List ℕ) : Type 0 where
  pub of_graph : (g : Graph) → Around g (below (edge_count g)) bounds arcs → g.vertices ≡ n → Tabled g roots table_after lasts_after
  pub distances_rest : OnlyFirst (length roots * n) distances table_after
  pub lasts_rest : OnlyFirst (length roots * n) lasts lasts_after
