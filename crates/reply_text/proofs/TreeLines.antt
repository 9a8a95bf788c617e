-- The lines of trees: edge by edge of a run of entries, part by part of one line, and tree by tree of a cover's bytes.
-- Assumes nothing.
use Prim.Native.Nat.{ℕ, suc, ◌+◌, ◌-◌, ◌≤◌, ◌<◌}
use mathlib.Core.Path.{◌≡◌, sym, ap, ◌∙◌}
use mathlib.Core.List.{List, [], ◌∷◌, ◌++◌, map}
use native.Mathlib.Numerals.{add-one}
use native.Mathlib.Omega.{arith}
use Rattle.lists.specs.Count as Count
use Rattle.lists.specs.Lists.{flat}
use Rattle.graph.specs.Graph.{Graph}
use Rattle.rules.specs.Cover.{Tree, tree_weight}
use Rattle.rules.specs.CoverBytes.{trees_in, entry_edge, tree_in, decode}
use Rattle.cover.specs.Runs.{run_edges}
use Rattle.cover.proofs.TreeRuns.{run_none, run_first}
use Rattle.reply_text.specs.Lines.{bytes_of, spaced, all_spaced, ended, line}
use Rattle.reply_text.specs.Text.{tree_line, tree_lines}
use Rattle.reply_text.proofs.LineEnds.{spaced_none, spaced_next, ended_next}

-- The edges of a run: the next one comes first, and past the last there is none.
module _ (c : List ℕ) (i to : ℕ) where
  pub run_spaced : (e : ℕ) → e ≡ entry_edge c i → i < to → all_spaced (run_edges c i to) ≡ spaced e ++ all_spaced (run_edges c (i + 1) to)
  run_spaced e q h =
      ap all_spaced (run_first c i to h)
      ∙ spaced_next (entry_edge c i) (run_edges c (i + 1) to)
      ∙ ap (λ x. spaced x ++ all_spaced (run_edges c (i + 1) to)) (sym q)

  pub run_done : to ≤ i → all_spaced (run_edges c i to) ≡ []
  run_done h = ap all_spaced (run_none c i to h) ∙ spaced_none

-- The parts of a tree's line: from its edges on, from its weight on, from its start on.
module _ (g : Graph) (t : Tree) where
  abbrev pub from_edges : List ℕ
  from_edges = all_spaced t.edges ++ bytes_of "\n"

  abbrev pub from_weight : List ℕ
  from_weight = spaced (tree_weight g t) ++ from_edges

  abbrev pub from_start : List ℕ
  from_start = spaced t.start ++ from_weight

  pub tree_parts : tree_line g t ≡ bytes_of "tree" ++ from_start
  unfolding tree_line line ended
  tree_parts =
      ap (λ l. bytes_of "tree" ++ l)
      (ended_next t.start (tree_weight g t ∷ t.edges) ∙ ap (λ l. spaced t.start ++ l) (ended_next (tree_weight g t) t.edges))

-- The trees of a cover's bytes from tree j on.
module _ (c : List ℕ) where
  unfoldable pub trees_from : ℕ → List Tree
  trees_from j = map (tree_in c) (Count.from j (trees_in c - j))

  pub trees_all : trees_from 0 ≡ decode c
  unfolding trees_from decode Count.below
  trees_all = let same : trees_in c - 0 ≡ trees_in c = omega arith in rw same

  module _ (g : Graph) (j : ℕ) where
    pub lines_next : j < trees_in c → tree_lines g (trees_from j) ≡ tree_line g (tree_in c j) ++ tree_lines g (trees_from (j + 1))
    unfolding trees_from tree_lines flat Count.from
    lines_next h = let some : trees_in c - j ≡ suc (trees_in c - suc j) = omega arith in rw (add-one, some)

    pub lines_done : trees_in c ≤ j → tree_lines g (trees_from j) ≡ []
    unfolding trees_from tree_lines flat Count.from
    lines_done h = let none : trees_in c - j ≡ 0 = omega arith in rw none
