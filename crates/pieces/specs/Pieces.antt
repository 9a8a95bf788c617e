-- Lists of edges held one after the other in one array.
-- Assumes nothing.
use Rattle.std.specs.Prelude.{ℕ, ◌+◌, ◌-◌, ◌≤◌, ◌<◌, ◌≡◌, List, [], ◌∷◌, length}
use Rattle.lists.specs.Segments.{segment, Bounded}
use Rattle.graph.specs.Graph.{Graph, one_end, other_end}
use Rattle.rules.specs.Cover.{Tree}

-- What writing the numbers from one up to another asks: they fit an index array, and there is room for them from a place on.
pub record RunAsked (first to at room : ℕ) : Type 0 where
  pub small : to ≤ 65536
  pub fits : at + (to - first) ≤ room

-- What numbering k trees asks: their numbers fit an index array, and there is room.
pub record NumbersAsked (k room : ℕ) : Type 0 where
  pub few : k ≤ 65536
  pub fits : k ≤ room

-- The first i lists are laid: they take up the array's elements before `used`.
pub record Laid (lists : ℕ → List ℕ) (i used : ℕ) (bounds members : List ℕ) : Type 0 where
  pub bounded : Bounded bounds i used
  pub inside : used ≤ length members
  pub are : (h : ℕ) → h < i → segment bounds members h ≡ lists h

-- A tree by its start and its edges.
abbrev pub tree_of : ℕ → List ℕ → Tree
tree_of start edges = record { start = start; edges = edges }

-- The ends of an edge.
abbrev pub ends_of : Graph → ℕ → List ℕ
ends_of g e = one_end g e ∷ other_end g e ∷ []
