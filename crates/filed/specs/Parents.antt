-- Vertices joined by parents: an array has a parent for each of the 256 vertices that a graph can have. No vertex's parent is higher than
-- the vertex, so that whoever follows parents comes to one that is its own, which stands for all that are joined to it.
-- Assumes nothing.
use Rattle.std.specs.Prelude.{ℕ, ◌≤◌, ◌<◌, ◌≡◌, Bool, not, List, length, get_or}
use Rattle.graph.specs.Graph.{Graph}
use Rattle.graph.specs.Valid.{Valid}
use Rattle.rules.specs.Labels.{Labels, ends_joined, merge_edge}

-- The vertex is its own parent.
abbrev pub Stands : List ℕ → ℕ → Type 0
Stands parents v = get_or parents v 0 ≡ v

-- There is a parent for each vertex, and none is higher than the vertex.
pub record Parents (parents : List ℕ) : Type 0 where
  pub room : length parents ≡ 256
  pub falls : (v : ℕ) → v < 256 → get_or parents v 0 ≤ v

-- The parents join as the labels do: a vertex is joined to its parent, and no two vertices that stand for others are joined.
pub record Spells (parents : List ℕ) (label : Labels) : Type 0 where
  pub up : (v : ℕ) → v < 256 → label (get_or parents v 0) ≡ label v
  pub once : (u v : ℕ) → u < 256 → v < 256 → Stands parents u → Stands parents v → label u ≡ label v → u ≡ v

-- Every vertex stands for itself alone.
abbrev pub AllStand : List ℕ → Type 0
AllStand parents = (v : ℕ) → v < 256 → Stands parents v

-- Parents may have become others that join the same: who stood for others does so still.
pub record Shortened (before after : List ℕ) : Type 0 where
  pub parents : Parents after
  pub stand : (v : ℕ) → v < 256 → Stands before v → Stands after v
  pub spells : (label : Labels) → Spells before label → Spells after label

-- r stands for v, whatever labels the parents spell.
pub record Found (v : ℕ) (before after : List ℕ) (r : ℕ) : Type 0 where
  pub short : Shortened before after
  pub stands : Stands after r
  pub below : r ≤ v
  pub same : (label : Labels) → Spells before label → label r ≡ label v

-- The graph is valid, and there are parents.
pub record Joinable (g : Graph) (parents : List ℕ) : Type 0 where
  pub valid : Valid g
  pub parented : Parents parents

-- The ends of edge e were joined, and r says whether they were not yet, whatever labels the parents spell.
pub record EndsJoined (g : Graph) (e : ℕ) (before after : List ℕ) (r : Bool) : Type 0 where
  pub parents : Parents after
  pub new : (label : Labels) → Spells before label → r ≡ not (ends_joined g label e)
  pub labels : (label : Labels) → Spells before label → Spells after (merge_edge g label e)
