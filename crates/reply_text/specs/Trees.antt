-- The trees of a cover's bytes, as their lines are written.
-- Assumes nothing.
use Rattle.std.specs.Prelude.{ℕ, ◌+◌, ◌≤◌, ◌≡◌, true, List, length}
use Rattle.graph.specs.Graph.{Graph, edge_count}
use Rattle.rules.specs.Cover.{Tree}
use Rattle.rules.specs.CoverBytes.{start_in, decode}
use Rattle.rules.specs.CheckCover.{entries_right}
use Rattle.cover.specs.Runs.{InEntries, run_edges}
use Rattle.reply_text.specs.Text.{tree_line, tree_lines}

-- Tree j, whose edges are those of a run of entries.
abbrev pub run_tree : List ℕ → ℕ → ℕ → ℕ → Tree
run_tree c j from to = record { start = start_in c j; edges = run_edges c from to }

-- There is room for its line from a place on.
pub record TreeTextAsked (g : Graph) (c : List ℕ) (j from to at room : ℕ) : Type 0 where
  pub run : InEntries c from to
  pub fits : at + length (tree_line g (run_tree c j from to)) ≤ room

-- The entries are those of a cover, and there is room for the lines of all trees from a place on.
pub record TreesAsked (g : Graph) (c : List ℕ) (at room : ℕ) : Type 0 where
  pub entries : entries_right (edge_count g) c ≡ true
  pub fits : at + length (tree_lines g (decode c)) ≤ room
