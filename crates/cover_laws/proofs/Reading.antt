-- What reading makes of a cover's bytes: the entries as pairs, and the trees that they group into.
-- Assumes nothing.
use Prim.Native.Nat.{ℕ}
use mathlib.Core.Path.{◌≡◌, sym, ap, ◌∙◌}
use mathlib.Core.List.{List, map, map-map}
use lib.Dec.{eqb}
use lib.ListN.{length}
use Rattle.lists.specs.Count.{below}
use Rattle.lists.specs.Lists.{filter}
use Rattle.lists.proofs.Filters.{filter_of_map}
use Rattle.lists.proofs.Runs.{length_map_below, map_same}
use Rattle.rules.specs.Cover.{Tree}
use Rattle.rules.specs.CoverBytes.{trees_in, entries_in, start_in, entry_tree, entry_edge, tree_in, decode}
use Rattle.cover_laws.proofs.Entries.{Entry, edges_of}
use Rattle.cover_laws.proofs.RisingEntries.{grouped}

-- Entry i of the bytes.
unfoldable pub entry_in : List ℕ → ℕ → Entry
entry_in b i = record { tree = entry_tree b i; edge = entry_edge b i }

-- The entries of the bytes.
unfoldable pub entries_read : List ℕ → List Entry
entries_read b = map (entry_in b) (below (entries_in b))

-- A tree of the bytes is what the entries group into.
pub tree_in_grouped : (b : List ℕ) (j : ℕ) → tree_in b j ≡ grouped (start_in b) (entries_read b) j
unfolding tree_in grouped entries_read entry_in edges_of
tree_in_grouped b j = λ i. record { start = start_in b j; edges = same i }
  where
    places : List ℕ
    places = filter (λ k. eqb (entry_tree b k) j) (below (entries_in b))

    same : map (entry_edge b) places ≡ map (λ (x : Entry). x.edge) (filter (λ (x : Entry). eqb x.tree j) (map (entry_in b) (below (entries_in b))))
    same =
        sym (map-map (λ (x : Entry). x.edge) (entry_in b) places)
        ∙ ap (map (λ (x : Entry). x.edge)) (sym (filter_of_map (λ (x : Entry). eqb x.tree j) (entry_in b) (below (entries_in b))))

-- The trees of the bytes are what the entries group into.
pub decode_grouped : (b : List ℕ) → decode b ≡ map (grouped (start_in b) (entries_read b)) (below (trees_in b))
unfolding decode
decode_grouped b = map_same (below (trees_in b)) (λ j m. tree_in_grouped b j)

-- Bytes hold as many trees as they say, and as many entries.
pub length_decode : (b : List ℕ) → length (decode b) ≡ trees_in b
unfolding decode
length_decode b = length_map_below (tree_in b) (trees_in b)

pub length_entries_read : (b : List ℕ) → length (entries_read b) ≡ entries_in b
unfolding entries_read
length_entries_read b = length_map_below (entry_in b) (entries_in b)

-- The starts, the tree numbers and the edge numbers of the bytes, each for itself.
pub starts_read : (b : List ℕ) → map (λ (t : Tree). t.start) (decode b) ≡ map (start_in b) (below (trees_in b))
unfolding decode tree_in
starts_read b = map-map (λ (t : Tree). t.start) (tree_in b) (below (trees_in b))

pub trees_read : (b : List ℕ) → map (λ (x : Entry). x.tree) (entries_read b) ≡ map (entry_tree b) (below (entries_in b))
unfolding entries_read entry_in
trees_read b = map-map (λ (x : Entry). x.tree) (entry_in b) (below (entries_in b))

pub edges_read : (b : List ℕ) → map (λ (x : Entry). x.edge) (entries_read b) ≡ map (entry_edge b) (below (entries_in b))
unfolding entries_read entry_in
edges_read b = map-map (λ (x : Entry). x.edge) (entry_in b) (below (entries_in b))
