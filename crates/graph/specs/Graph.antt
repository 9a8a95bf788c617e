-- A graph, apart from its bytes. All that stands above the reader of bytes speaks of this.
-- Assumes nothing.
use Rattle.std.specs.Prelude.{ℕ, List, get_or, length}

-- An edge (document 01: a "line"): its two ends, in the order of the bytes, and its weight.
pub record Edge : Type 0 where
  pub one : ℕ
  pub other : ℕ
  pub weight : ℕ

-- A graph (document 01: a "district" on its "sheet"): how many vertices ("stops") there are, numbered from 0,
-- and the edges, each numbered by its place in the list.
pub record Graph : Type 0 where
  pub vertices : ℕ
  pub edges : List Edge

-- How many edges there are.
abbrev pub edge_count : Graph → ℕ
edge_count g = length g.edges

-- What stands past the last edge: from vertex 0 to itself, of weight 0.
abbrev pub no_edge : Edge
no_edge = record { one = 0; other = 0; weight = 0 }

-- The edge of a number.
abbrev pub edge_at : Graph → ℕ → Edge
edge_at g e = get_or g.edges e no_edge

-- One end of the edge of a number, its other end, and its weight.
abbrev pub one_end : Graph → ℕ → ℕ
one_end g e = (edge_at g e).one

abbrev pub other_end : Graph → ℕ → ℕ
other_end g e = (edge_at g e).other

abbrev pub weight_of : Graph → ℕ → ℕ
weight_of g e = (edge_at g e).weight
