-- The numbers of an answer's trees among the pieces that the splitting leaves (document 01, step 7), by the numbers of the leftovers and the
-- bounds of each piece's edges.
-- Assumes nothing.
use Rattle.std.specs.Prelude.{ℕ, ◌+◌, ◌-◌, ◌≤◌, ◌<◌, cond, List, [], ◌∷◌, ◌++◌, length, get_or, eqb}
use Rattle.lists.specs.Count.{from}
use Rattle.graph.specs.Graph.{Graph}
use Rattle.rules.specs.Cover.{Tree}
use Rattle.rules.specs.Grow.{Rooted}
use Rattle.rules.specs.Split.{split}
use Rattle.rules.specs.UnrootedTrial.{leftovers}

-- The numbers from one up to another.
abbrev pub run : ℕ → ℕ → List ℕ
run a b = from a (b - a)

-- The number behind the last tree of a component whose pieces begin at `first` and whose leftover is piece `left`: the leftover is a tree
-- where it has edges or is the only piece.
unfoldable pub tree_end : List ℕ → ℕ → ℕ → ℕ
tree_end cuts first left = cond (eqb first left) (left + 1) (cond (eqb (get_or cuts left 0) (get_or cuts (left + 1) 0)) left (left + 1))

-- The numbers of all trees, where the first component's pieces begin at `first`.
unfoldable pub tree_places : List ℕ → ℕ → List ℕ → List ℕ
tree_places cuts first [] = []
tree_places cuts first (left ∷ lefts) = run first (tree_end cuts first left) ++ tree_places cuts (left + 1) lefts

-- What these numbers stand for: the parts of a component's tree, and its leftover where this has edges or there is no part.
abbrev pub trees_of : Graph → ℕ → Rooted → List Tree
trees_of g H t = (split g H t).parts ++ leftovers t.root (split g H t).parts (split g H t).left

-- The bounds of each leftover are there, and there is room for all numbers.
pub record PlacesAsked (lefts cuts out : List ℕ) : Type 0 where
  pub cut : (j : ℕ) → j < length lefts → get_or lefts j 0 + 1 < length cuts
  pub room : length (tree_places cuts 0 lefts) ≤ length out
