-- The bytes of a cover (document 01, "Cover bytes"): "t (trees, 2 bytes), q (entries, 2 bytes), t starts (2 bytes each),
-- then two parallel arrays of q: tree numbers and line numbers (2 bytes each)".
-- Assumes nothing.
use Rattle.std.specs.Prelude.{ℕ, suc, ◌+◌, ◌*◌, ◌/◌, ◌%◌, List, [], ◌∷◌, ◌++◌, map, length, replicate, eqb}
use Rattle.lists.specs.Count.{below}
use Rattle.lists.specs.Lists.{filter, flat}
use Rattle.graph.specs.Bytes.{u16_at}
use Rattle.rules.specs.Cover.{Tree}

-- A field of two bytes, lowest byte first.
unfoldable pub u16_bytes : ℕ → List ℕ
u16_bytes x = x % 256 ∷ x / 256 % 256 ∷ []

-- Fields of two bytes, one after the other.
unfoldable pub u16_list : List ℕ → List ℕ
u16_list xs = flat (map u16_bytes xs)

-- The tree numbers of the entries, trees numbered from j on: one for each edge of each tree.
unfoldable pub entry_trees : ℕ → List Tree → List ℕ
entry_trees j [] = []
entry_trees j (t ∷ ts) = replicate (length t.edges) j ++ entry_trees (suc j) ts

-- The edge numbers of the entries. "Entries rise strictly by tree, then by line", as each tree's edges rise.
unfoldable pub entry_edges : List Tree → List ℕ
entry_edges trees = flat (map (λ (t : Tree). t.edges) trees)

-- The bytes of a list of trees.
unfoldable pub encode : List Tree → List ℕ
encode trees =
    u16_bytes (length trees) ++ (u16_bytes (length (entry_edges trees)) ++ (u16_list (map (λ (t : Tree). t.start) trees)
    ++ (u16_list (entry_trees 0 trees) ++ u16_list (entry_edges trees))))

-- Reading: how many trees and entries there are, the start of tree j, and the tree and the edge of entry i.
abbrev pub trees_in : List ℕ → ℕ
trees_in b = u16_at b 0

abbrev pub entries_in : List ℕ → ℕ
entries_in b = u16_at b 2

abbrev pub start_in : List ℕ → ℕ → ℕ
start_in b j = u16_at b (4 + 2 * j)

abbrev pub entry_tree : List ℕ → ℕ → ℕ
entry_tree b i = u16_at b (4 + 2 * trees_in b + 2 * i)

abbrev pub entry_edge : List ℕ → ℕ → ℕ
entry_edge b i = u16_at b (4 + 2 * trees_in b + 2 * entries_in b + 2 * i)

-- "Length is 4 + 2t + 4q."
abbrev pub cover_length : List ℕ → ℕ
cover_length b = 4 + 2 * trees_in b + 4 * entries_in b

-- Tree j of the bytes: its start, and the edges of the entries that name it.
unfoldable pub tree_in : List ℕ → ℕ → Tree
tree_in b j = record { start = start_in b j; edges = map (entry_edge b) (filter (λ i. eqb (entry_tree b i) j) (below (entries_in b))) }

-- The trees of the bytes.
unfoldable pub decode : List ℕ → List Tree
decode b = map (tree_in b) (below (trees_in b))
