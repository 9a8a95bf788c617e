-- The forest of the whole graph (document 01, steps 1 and 2), made once a question: its edges of weight at most B are the forest at B.
-- Assumes nothing.
use Rattle.std.specs.Prelude.{ℕ, ◌≤◌, ◌<◌, ◌≡◌, Option, List, length, take}
use Rattle.lists.specs.Member.{◌∈◌}
use Rattle.lists.specs.Put.{PutTo, OnlyFirst}
use Rattle.graph.specs.Graph.{Graph}
use Rattle.rules.specs.Order.{ordered}
use Rattle.rules.specs.Labels.{Labels, together, merge_all}
use Rattle.rules.specs.Forest.{keep, forest, unjoined}
use Rattle.forest.specs.Arrays.{Agrees}
use Rattle.forest.specs.Keeping.{Labelable, Keepable}
use Rattle.forest.specs.Lowest.{vertex_in}

-- Whatever labels the array held: the ends of each edge are joined. Elements past the vertices are as they came.
pub record AllJoined (g : Graph) (edges before after : List ℕ) : Type 0 where
  pub labels : (label : Labels) → Agrees g.vertices before label → Agrees g.vertices after (merge_all g label edges)
  pub rest : OnlyFirst g.vertices before after

-- The roots ("yards") are joined, and the ends of each edge: the labels that the edges make. Without roots all vertices begin apart.
pub record EdgesLabelled (g : Graph) (roots edges before after : List ℕ) : Type 0 where
  pub labels : Agrees g.vertices after (merge_all g (together roots) edges)
  pub rest : OnlyFirst g.vertices before after

-- What the search for a vertex joined to no root asks: a valid graph with a place for each vertex's label, and roots among the vertices.
pub record StopAsked (g : Graph) (roots label : List ℕ) : Type 0 where
  pub labelable : Labelable g label
  pub roots_some : 0 < length roots
  pub roots_inside : (r : ℕ) → r ∈ roots → r < g.vertices

-- The answer is "stop v", the lowest vertex that the edges join to no root.
pub record StopFound (g : Graph) (roots edges before after : List ℕ) (r : Option ℕ) : Type 0 where
  pub is : vertex_in r ≡ unjoined g roots (merge_all g (together roots) edges)
  pub rest : OnlyFirst g.vertices before after

-- What the whole forest asks: all edges in order, and room for labels and for the edges kept.
pub record WholeAsked (g : Graph) (order label kept : List ℕ) : Type 0 where
  pub keepable : Keepable g label kept
  pub in_order : order ≡ ordered g

-- The whole forest was written, r edges by weight, and its labels stand in the array. Elements past the vertices and past the edges written
-- are as they came.
pub record WholeForest (g : Graph) (roots label₀ label₁ kept₀ kept₁ : List ℕ) (r : ℕ) : Type 0 where
  pub edges_are : PutTo 0 (keep g (together roots) (ordered g)) kept₀ kept₁ r
  pub labels : Agrees g.vertices label₁ (merge_all g (together roots) (ordered g))
  pub rest : OnlyFirst g.vertices label₀ label₁
  pub fewer : r < g.vertices

-- The edges are a whole forest, from some labels at the start.
pub record WholeKept (g : Graph) (kept : List ℕ) : Type 0 where
  pub label : Labels
  pub are : kept ≡ keep g label (ordered g)

-- The first r edges of the whole forest are the forest at the limit.
pub record LightForest (g : Graph) (kept : List ℕ) (limit r : ℕ) : Type 0 where
  pub few : r ≤ length kept
  pub front : (label : Labels) → kept ≡ keep g label (ordered g) → take r kept ≡ forest g label limit
