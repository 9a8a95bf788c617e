-- What keeping edges asks of the lent arrays, and what it leaves in them (document 01, step 2).
-- Assumes nothing.
use Rattle.std.specs.Prelude.{ℕ, ◌≤◌, ◌<◌, List, length}
use Rattle.lists.specs.Put.{PutTo, OnlyFirst}
use Rattle.graph.specs.Graph.{Graph}
use Rattle.graph.specs.Valid.{Valid}
use Rattle.rules.specs.Labels.{Labels, merge_all}
use Rattle.rules.specs.Forest.{keep}
use Rattle.forest.specs.Arrays.{Agrees}

-- The graph is valid, and the array has a place for each vertex's label.
pub record Labelable (g : Graph) (label : List ℕ) : Type 0 where
  pub valid : Valid g
  pub room : g.vertices ≤ length label

-- Besides, there is a place for each vertex to keep edges in: however many edges are given, fewer are kept than there are vertices.
pub record Keepable (g : Graph) (label kept : List ℕ) : Type 0 where
  pub labelable : Labelable g label
  pub room : g.vertices ≤ length kept

-- Whatever labels the array held: the r edges written are those "whose ends are not yet joined", and the ends of all edges are joined.
-- Elements past the vertices and past the edges written are as they came.
pub record KeptWritten (g : Graph) (edges label₀ label₁ kept₀ kept₁ : List ℕ) (r : ℕ) : Type 0 where
  pub edges_are : (label : Labels) → Agrees g.vertices label₀ label → PutTo 0 (keep g label edges) kept₀ kept₁ r
  pub labels : (label : Labels) → Agrees g.vertices label₀ label → Agrees g.vertices label₁ (merge_all g label edges)
  pub rest : OnlyFirst g.vertices label₀ label₁
  pub few : r ≤ length edges
  pub fewer : r < g.vertices
