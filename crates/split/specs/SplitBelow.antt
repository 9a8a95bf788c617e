-- What hangs below a vertex is grown over arcs with an array of marks and split as it is grown (document 01, steps 3 and 4), as a relation.
-- It says what the rules' `grow_children` and `split_at` say together, of what arrays of arcs say, with no bound on the depth.
-- A vertex is passed where its mark is not 0.
-- Assumes nothing.
use Rattle.std.specs.Prelude.{ℕ, ◌+◌, ◌≡◌, Bool, true, false, List, [], ◌∷◌, ◌++◌, get_or, set, eqb}
use Rattle.lists.specs.Count.{count}
use Rattle.lists.specs.Segments.{segment}
use Rattle.rules.specs.Cover.{Tree}
use Rattle.edges.specs.Around.{arc_edge, arc_head, arc_weight}
use Rattle.bunches.specs.Settles.{Load, load, Settles}

-- The vertex has no mark.
unfoldable pub unmarked : List ℕ → ℕ → Bool
unmarked marks v = eqb (get_or marks v 0) 0

-- How many of n vertices have no mark: what is left to be visited.
unfoldable pub unvisited : ℕ → List ℕ → ℕ
unvisited n marks = count n (unmarked marks)

-- The marks, with the vertex v passed.
abbrev pub passing : ℕ → List ℕ → List ℕ
passing v marks = set marks v 1

-- A child's piece: its edge, and what is left below the child.
abbrev pub piece_of : ℕ → Load → Load
piece_of arc below = load (arc_edge arc ∷ below.edges) (arc_weight arc + below.weight)

-- From the vertex v, its arcs still to be looked at, the marks and the bunch so far, to the parts split off, what is left at v,
-- and the marks then. Each arc whose head has no mark leads to a child: the child is marked, and what hangs below it comes first.
pub data SplitBelow (bounds arcs : List ℕ) (H : ℕ) : ℕ → List ℕ → List ℕ → Load → List Tree → Load → List ℕ → Type 0 where
  done : {v : ℕ} {marks : List ℕ} {bunch : Load} → SplitBelow bounds arcs H v [] marks bunch [] bunch marks
  past : {v arc : ℕ} {rest marks last : List ℕ} {bunch left : Load} {parts : List Tree}
      → unmarked marks (arc_head arc) ≡ false
      → SplitBelow bounds arcs H v rest marks bunch parts left last
      → SplitBelow bounds arcs H v (arc ∷ rest) marks bunch parts left last
  child : {v arc : ℕ} {rest marks middle last : List ℕ} {bunch below met left : Load} {inner own later : List Tree}
      → unmarked marks (arc_head arc) ≡ true
      → SplitBelow bounds arcs H (arc_head arc) (segment bounds arcs (arc_head arc)) (passing (arc_head arc) marks) (load [] 0) inner below middle
      → Settles H v bunch (piece_of arc below) own met
      → SplitBelow bounds arcs H v rest middle met later left last
      → SplitBelow bounds arcs H v (arc ∷ rest) marks bunch (inner ++ (own ++ later)) left last
