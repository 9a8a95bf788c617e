-- Trees, covers and the heaviest tree (document 01, "Sheet and cover bytes"). Demands 2 and 3 speak of these.
-- Assumes nothing.
use Rattle.std.specs.Prelude.{ℕ, ◌≤◌, ◌<◌, ◌≡◌, List, map, length}
use Rattle.lists.specs.Lists.{largest, without}
use Rattle.lists.specs.Member.{◌∈◌}
use Rattle.lists.specs.InOrder.{Rising}
use Rattle.graph.specs.Graph.{Graph, edge_count, one_end, other_end}
use Rattle.rules.specs.Walk.{Linked, total_weight}

-- A start and a set of edges, by rising number.
pub record Tree : Type 0 where
  pub start : ℕ
  pub edges : List ℕ

-- A "tree": "a start stop and a set of lines without a loop, all joined to the start".
-- An edge lies on a loop where the other edges link its ends.
pub record IsTree (g : Graph) (t : Tree) : Type 0 where
  pub start_inside : t.start < g.vertices
  pub edges_inside : (e : ℕ) → e ∈ t.edges → e < edge_count g
  pub rising : Rising t.edges
  pub joined : (e : ℕ) → e ∈ t.edges → Linked g t.edges t.start (one_end g e)
  pub no_loop : (e : ℕ) → e ∈ t.edges → Linked g (without e t.edges) (one_end g e) (other_end g e) → ⊥

-- "It covers its start and the ends of its lines."
pub data Covers (g : Graph) (t : Tree) (v : ℕ) : Type 0 where
  at_start : v ≡ t.start → Covers g t v
  at_one_end : (e : ℕ) → e ∈ t.edges → v ≡ one_end g e → Covers g t v
  at_other_end : (e : ℕ) → e ∈ t.edges → v ≡ other_end g e → Covers g t v

-- "Its weight is the sum of its lines."
unfoldable pub tree_weight : Graph → Tree → ℕ
tree_weight g t = total_weight g t.edges

-- "A cover's heaviest weight, or its heaviest, is the largest weight among its trees."
unfoldable pub heaviest : Graph → List Tree → ℕ
heaviest g trees = largest (tree_weight g) trees

-- Trees that cover every vertex. "Trees may share stops and lines."
pub record AllCovered (g : Graph) (trees : List Tree) : Type 0 where
  pub are_trees : (t : Tree) → t ∈ trees → IsTree g t
  pub covered : (v : ℕ) → v < g.vertices → (t : Tree) × (t ∈ trees) × Covers g t v

-- Whom a cover is for. "Yard" crews have a root each, tree j starting at the j-th; of "roving" crews there are at most k.
pub data Crews : Type 0 where
  rooted : List ℕ → Crews
  unrooted : ℕ → Crews

-- "A yard cover has k trees, tree j starting at stop j" (document 02, A.5: "at the j-th" of a list). "A roving cover has 1 to k trees."
abbrev pub Starts : Crews → List Tree → Type 0
Starts (rooted roots) trees = map (λ (t : Tree). t.start) trees ≡ roots
Starts (unrooted k) trees = (1 ≤ length trees) × (length trees ≤ k)

-- A "cover" by the crews.
pub record IsCover (g : Graph) (crews : Crews) (trees : List Tree) : Type 0 where
  pub starts : Starts crews trees
  pub all_covered : AllCovered g trees
