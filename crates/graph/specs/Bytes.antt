-- The graph's bytes (document 01: a "sheet"), the class bytes beside them, and the graph that they spell. Nothing above this file speaks of places in the bytes.
-- A list of bytes is read as 0 past its end, so that every definition here holds for every list.
-- Assumes nothing.
use Rattle.std.specs.Prelude.{ℕ, ◌+◌, ◌*◌, ◌<◌, ◌≡◌, cond, List, map, length, get_or, eqb}
use Rattle.lists.specs.Count.{below}
use Rattle.graph.specs.Graph.{Edge, Graph}
use Rattle.graph.specs.Surface.{surfaced}

-- The field of two bytes at a place, lowest byte first.
unfoldable pub u16_at : List ℕ → ℕ → ℕ
u16_at b at = get_or b at 0 + 256 * get_or b (at + 1) 0

-- The field of four bytes at a place, lowest byte first.
unfoldable pub u32_at : List ℕ → ℕ → ℕ
u32_at b at = u16_at b at + 65536 * u16_at b (at + 2)

-- The two counts at the head (document 01: n and m).
abbrev pub vertices_in : List ℕ → ℕ
vertices_in b = u16_at b 0

abbrev pub edges_in : List ℕ → ℕ
edges_in b = u16_at b 2

-- How long the bytes of m edges are: the head, and for each edge two ends of two bytes and a weight of four.
abbrev pub length_for : ℕ → ℕ
length_for m = 4 + 8 * m

-- Where the ends of edge e stand: past the head, one pair for each edge before it.
abbrev pub ends_at : ℕ → ℕ
ends_at e = 4 + 4 * e

-- Where the weight of edge e stands, of m edges: past the head and all ends.
abbrev pub weight_at : ℕ → ℕ → ℕ
weight_at m e = 4 + 4 * m + 4 * e

-- Edge e of the bytes.
unfoldable pub edge_in : List ℕ → ℕ → Edge
edge_in b e =
    record {
      one = u16_at b (ends_at e);
      other = u16_at b (ends_at e + 2);
      weight = u32_at b (weight_at (edges_in b) e);
    }

-- How many edges the bytes hold: as many as the head says where the length is theirs, and bytes of another length hold none.
unfoldable pub edges_held : List ℕ → ℕ
edges_held b = cond (eqb (length b) (length_for (edges_in b))) (edges_in b) 0

-- The graph that the bytes spell, with the weights as given.
unfoldable pub sheet_graph : List ℕ → Graph
sheet_graph b = record { vertices = vertices_in b; edges = map (edge_in b) (below (edges_held b)) }

-- The graph that the bytes and the class bytes beside them spell, with the weights by class: what a question is about. Without a class list the
-- latter are none.
unfoldable pub graph_of : List ℕ → List ℕ → Graph
graph_of b classes = surfaced (sheet_graph b) classes

-- What a reader hands back: the value that is meant, below the bound of its field.
pub record Reads (meant bound r : ℕ) : Type 0 where
  pub is : r ≡ meant
  pub small : r < bound
