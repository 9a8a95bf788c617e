-- The entries of one tree stand side by side: a run of entries.
-- Assumes nothing.
use Rattle.std.specs.Prelude.{ℕ, ◌-◌, ◌≤◌, ◌<◌, ◌≡◌, true, List, map}
use Rattle.lists.specs.Count as Count
use Rattle.graph.specs.Graph.{Graph, edge_count}
use Rattle.graph.specs.Valid.{Valid}
use Rattle.rules.specs.CoverBytes.{entries_in, entry_tree, entry_edge}
use Rattle.rules.specs.CheckCover.{starts_below, entries_right}

-- The edges of the entries from one place up to another.
abbrev pub run_edges : List ℕ → ℕ → ℕ → List ℕ
run_edges c from to = map (entry_edge c) (Count.from from (to - from))

-- A run of the cover's entries, which a field of two bytes counts.
pub record InEntries (c : List ℕ) (from to : ℕ) : Type 0 where
  pub forward : from ≤ to
  pub inside : to ≤ entries_in c
  pub few : to < 65536

-- The entries from one place up to another name tree j, and the next one, if there is one, does not.
pub record RunOf (c : List ℕ) (j from to : ℕ) : Type 0 where
  pub run : InEntries c from to
  pub named : (i : ℕ) → from ≤ i → i < to → entry_tree c i ≡ j
  pub ends : to < entries_in c → entry_tree c to ≡ j → ⊥

-- The place where the entries of tree j begin: all before it name lower trees, and none from it on does.
pub record BeginsAt (c : List ℕ) (j at : ℕ) : Type 0 where
  pub inside : at ≤ entries_in c
  pub lower : (i : ℕ) → i < at → entry_tree c i < j
  pub higher : (i : ℕ) → at ≤ i → i < entries_in c → j ≤ entry_tree c i

-- A valid graph, and a cover whose starts and entries passed their tests.
pub record CoverGiven (g : Graph) (c : List ℕ) : Type 0 where
  pub valid : Valid g
  pub starts : starts_below g.vertices c ≡ true
  pub entries : entries_right (edge_count g) c ≡ true
