-- What a view of a graph's bytes says: whose bytes it holds, and that its counts are the graph's.
-- Assumes nothing.
use Rattle.std.specs.Prelude.{ℕ, ◌≡◌, List}
use Rattle.graph.specs.Graph.{Graph, edge_count}
use Rattle.graph.specs.Bytes.{sheet_graph}
use Rattle.graph.specs.declared.view.View.{View}

-- The counts n and m are the graph's (document 01: n and m of a "sheet").
pub record CountsOf (g : Graph) (n m : ℕ) : Type 0 where
  pub vertices_are : n ≡ g.vertices
  pub edges_are : m ≡ edge_count g

-- The view v shows the bytes b: it holds them, and its counts are those of the graph that they spell.
pub record Views (v : View) (b : List ℕ) : Type 0 where
  pub bytes_are : v.bytes.now ≡ b
  pub counts : CountsOf (sheet_graph b) v.vertices v.edges
