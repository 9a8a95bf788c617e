-- The marked edges of a union that are kept (document 01, step 6).
-- Assumes nothing.
use Rattle.std.specs.Prelude.{ℕ, ◌≤◌, ◌<◌, List, length}
use Rattle.lists.specs.Lists.{filter}
use Rattle.lists.specs.Put.{PutTo}
use Rattle.graph.specs.Graph.{Graph}
use Rattle.graph.specs.Valid.{Valid}
use Rattle.matching.specs.Assignment.{marked}
use Rattle.rules.specs.Labels.{apart}
use Rattle.rules.specs.Forest.{keep}
use Rattle.forest.specs.Keeping.{Keepable}

-- What keeping the marked edges of a list asks: what keeping edges asks, and that no more of the list are marked than are said.
pub record MarkedGiven (g : Graph) (list marks label out : List ℕ) (most : ℕ) : Type 0 where
  pub keepable : Keepable g label out
  pub few : length (filter (marked marks) list) ≤ most

-- What keeping the edges of a union asks: a valid graph, room for an edge of each vertex, and that no more of the order are marked than are said.
pub record UnionGiven (g : Graph) (order marks out : List ℕ) (most : ℕ) : Type 0 where
  pub valid : Valid g
  pub room : g.vertices ≤ length out
  pub few : length (filter (marked marks) order) ≤ most

-- The marked edges of the order, "kept if their ends are not yet joined", were written, r of them.
pub record UnionKept (g : Graph) (order marks before after : List ℕ) (r : ℕ) : Type 0 where
  pub kept : PutTo 0 (keep g apart (filter (marked marks) order)) before after r
  pub fewer : r < g.vertices
