-- Marked vertices: a byte for each, 1 where a tree of the cover is found to cover it.
-- Assumes nothing.
use Rattle.std.specs.Prelude.{ℕ, ◌<◌, ◌≡◌, List, get_or}
use Rattle.lists.specs.Member.{◌∈◌}
use Rattle.graph.specs.Graph.{Graph, one_end, other_end}
use Rattle.rules.specs.Cover.{Tree, Covers}
use Rattle.rules.specs.CoverBytes.{trees_in, entries_in, start_in, entry_tree, entry_edge, decode}

-- The vertex is marked.
abbrev pub VertexMarked : List ℕ → ℕ → Type 0
VertexMarked marks v = get_or marks v 0 ≡ 1

-- Some tree of the cover covers each marked vertex.
abbrev pub OnlyCovered : Graph → List ℕ → List ℕ → Type 0
OnlyCovered g c marks = (v : ℕ) → VertexMarked marks v → (t : Tree) × (t ∈ decode c) × Covers g t v

-- The starts of the first n trees were marked, and nothing but vertices that are covered. What is not marked is as it came.
pub record StartsMarked (c : List ℕ) (n : ℕ) (before after : List ℕ) : Type 0 where
  pub starts : (j : ℕ) → j < n → VertexMarked after (start_in c j)
  pub only : (g : Graph) → OnlyCovered g c before → OnlyCovered g c after
  pub rest : (v : ℕ) → (VertexMarked after v → ⊥) → get_or after v 0 ≡ get_or before v 0

-- The ends of the edges of the first n entries were marked, and, where each entry names a tree, nothing but vertices that are covered.
-- What was marked stays so, and what is not marked is as it came.
pub record EndsMarked (g : Graph) (c : List ℕ) (n : ℕ) (before after : List ℕ) : Type 0 where
  pub ends : (i : ℕ) → i < n → VertexMarked after (one_end g (entry_edge c i)) × VertexMarked after (other_end g (entry_edge c i))
  pub only : ((i : ℕ) → i < entries_in c → entry_tree c i < trees_in c) → OnlyCovered g c before → OnlyCovered g c after
  pub kept : (v : ℕ) → VertexMarked before v → VertexMarked after v
  pub rest : (v : ℕ) → (VertexMarked after v → ⊥) → get_or after v 0 ≡ get_or before v 0
