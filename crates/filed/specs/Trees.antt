-- What the functions over one tree's run of entries say of it.
-- Assumes nothing.
use Rattle.std.specs.Prelude.{ℕ, ◌≤◌, ◌<◌, ◌≡◌, Bool, true, List, length}
use Rattle.lists.specs.Lists.{all}
use Rattle.lists.specs.Scratch.{Scratch}
use Rattle.graph.specs.Graph.{Graph, one_end}
use Rattle.graph.specs.Valid.{Valid}
use Rattle.rules.specs.Cover.{Tree}
use Rattle.rules.specs.Labels.{Labels, joined, merge_all}
use Rattle.rules.specs.CoverBytes.{start_in}
use Rattle.rules.specs.CheckCover.{loop_free, tree_right, trees_right}
use Rattle.cover.specs.Runs.{run_edges, CoverGiven}
use Rattle.filed.specs.Parents.{Parents, Spells, Shortened}

-- Whatever labels the parents spelled: r says whether the run's edges close no loop, and where they close none all their ends are joined.
pub record RunTaken (g : Graph) (c : List ℕ) (from to : ℕ) (before after : List ℕ) (r : Bool) : Type 0 where
  pub parents : Parents after
  pub free : (label : Labels) → Spells before label → r ≡ loop_free g label (run_edges c from to)
  pub labels : (label : Labels) → Spells before label → r ≡ true → Spells after (merge_all g label (run_edges c from to))

-- r says whether each edge of the run is joined to the start. The parents join the same still.
pub record RunJoined (g : Graph) (c : List ℕ) (from to start : ℕ) (before after : List ℕ) (r : Bool) : Type 0 where
  pub is : (label : Labels) → Spells before label → r ≡ all (λ e. joined label start (one_end g e)) (run_edges c from to)
  pub short : Shortened before after

-- r says whether the tree is right. The parents were scratch.
pub record TreeTold (g : Graph) (t : Tree) (before after : List ℕ) (r : Bool) : Type 0 where
  pub is : r ≡ tree_right g t
  pub parents_scratch : Scratch before after

-- The same of all trees.
pub record TreesTold (g : Graph) (trees : List Tree) (before after : List ℕ) (r : Bool) : Type 0 where
  pub is : r ≡ trees_right g trees
  pub parents_scratch : Scratch before after

-- A valid graph with a place for each vertex's parent, a start that is a vertex, and a run that does not end before it begins.
pub record TreeGiven (g : Graph) (c : List ℕ) (j from to : ℕ) (parents : List ℕ) : Type 0 where
  pub valid : Valid g
  pub room : length parents ≡ 256
  pub start : start_in c j < g.vertices
  pub forward : from ≤ to

-- A cover whose starts and entries passed their tests, with a place for each vertex's parent.
pub record TreesGiven (g : Graph) (c parents : List ℕ) : Type 0 where
  pub cover : CoverGiven g c
  pub room : length parents ≡ 256
