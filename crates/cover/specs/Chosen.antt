-- Trees chosen among those that three arrays hold (`trees_at` of the rules): what reading and writing them asks of the arrays.
-- Assumes nothing.
use Rattle.std.specs.Prelude.{ℕ, suc, ◌+◌, ◌*◌, ◌-◌, ◌^◌, ◌≤◌, ◌<◌, ◌≡◌, List, [], ◌∷◌, ◌++◌, map, length, get_or, replicate}
use Rattle.lists.specs.Lists.{flat, sum_of}
use Rattle.lists.specs.Member.{◌∈◌}
use Rattle.lists.specs.Segments.{segment}
use Rattle.graph.specs.Graph.{Graph}
use Rattle.rules.specs.Cover.{heaviest}
use Rattle.rules.specs.CoverBytes.{encode}
use Rattle.rules.specs.Held.{trees_at}

-- Their starts, and their edges one tree after the other.
abbrev pub starts_at : List ℕ → List ℕ → List ℕ
starts_at starts chosen = map (λ c. get_or starts c 0) chosen

abbrev pub edges_at : List ℕ → List ℕ → List ℕ → List ℕ
edges_at bounds edges chosen = flat (map (segment bounds edges) chosen)

-- How many edges tree c has, by its bounds.
abbrev pub size_at : List ℕ → ℕ → ℕ
size_at bounds c = get_or bounds (c + 1) 0 - get_or bounds c 0

-- How many edges the chosen trees have together. Each is an entry.
unfoldable pub entry_count : List ℕ → List ℕ → ℕ
entry_count bounds chosen = sum_of (size_at bounds) chosen

-- The tree numbers of these entries, trees numbered from j on in the order in which they are chosen.
unfoldable pub tree_numbers : ℕ → List ℕ → List ℕ → List ℕ
tree_numbers j bounds [] = []
tree_numbers j bounds (c ∷ chosen) = replicate (size_at bounds c) j ++ tree_numbers (suc j) bounds chosen

-- Tree c is held: its edges lie between its bounds, inside the array.
pub record IsHeld (bounds edges : List ℕ) (c : ℕ) : Type 0 where
  pub forward : get_or bounds c 0 ≤ get_or bounds (c + 1) 0
  pub inside : get_or bounds (c + 1) 0 ≤ length edges

-- The same of a number that has a next one.
pub record Readable (bounds edges : List ℕ) (c : ℕ) : Type 0 where
  pub held : IsHeld bounds edges c
  pub small : c + 1 < 2 ^ 64

-- r are its edges, no more than a bound can count.
pub record EdgesOf (bounds edges : List ℕ) (c : ℕ) (r : List ℕ) : Type 0 where
  pub is : r ≡ segment bounds edges c
  pub few : length r < 2 ^ 16

-- Each chosen tree is held.
abbrev pub AllHeld : List ℕ → List ℕ → List ℕ → Type 0
AllHeld bounds edges chosen = (c : ℕ) → c ∈ chosen → IsHeld bounds edges c

-- The chosen trees may be written into so much room: it has a place for each of their bytes.
pub record Writable (starts bounds edges chosen : List ℕ) (room : ℕ) : Type 0 where
  pub held : AllHeld bounds edges chosen
  pub fits : length (encode (trees_at starts bounds edges chosen)) ≤ room

-- Their edges may be written from a place on.
pub record EdgesWritable (bounds edges chosen : List ℕ) (at room : ℕ) : Type 0 where
  pub held : AllHeld bounds edges chosen
  pub fits : at + 2 * entry_count bounds chosen ≤ room

-- r is the weight of the heaviest of the chosen trees, wherever they start.
pub record HeaviestChosen (g : Graph) (bounds edges chosen : List ℕ) (r : ℕ) : Type 0 where
  pub is : (starts : List ℕ) → r ≡ heaviest g (trees_at starts bounds edges chosen)
