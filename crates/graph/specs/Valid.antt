-- What a valid graph is, and when bytes are one.
-- Assumes nothing.
use Rattle.std.specs.Prelude.{ℕ, ◌≤◌, ◌<◌, ◌≡◌, List, length}
use Rattle.graph.specs.Graph.{Edge, Graph, edge_count, edge_at}
use Rattle.graph.specs.Bytes.{edges_in, length_for, sheet_graph}

-- An edge ("line") within document 01's ranges: it joins two different vertices of n, and weighs at most 1,000,000.
pub record ValidEdge (n : ℕ) (x : Edge) : Type 0 where
  pub one_end : x.one < n
  pub other_end : x.other < n
  pub no_loop : x.one ≡ x.other → ⊥
  pub weight_most : x.weight ≤ 1000000

-- A graph within document 01's ranges: 1 to 256 vertices ("stops"), at most 2,048 edges, each of them valid.
pub record Valid (g : Graph) : Type 0 where
  pub vertices_some : 1 ≤ g.vertices
  pub vertices_most : g.vertices ≤ 256
  pub edges_most : edge_count g ≤ 2048
  pub each_edge : (e : ℕ) → e < edge_count g → ValidEdge g.vertices (edge_at g e)

-- The bytes are a graph's: of the length that the head asks, and the graph that they spell is valid.
pub record IsGraph (b : List ℕ) : Type 0 where
  pub sized : length b ≡ length_for (edges_in b)
  pub valid : Valid (sheet_graph b)

-- The bytes are a graph's, of n vertices and m edges.
pub record Counted (b : List ℕ) (n m : ℕ) : Type 0 where
  pub graph : IsGraph b
  pub vertices_are : n ≡ (sheet_graph b).vertices
  pub edges_are : m ≡ edge_count (sheet_graph b)
