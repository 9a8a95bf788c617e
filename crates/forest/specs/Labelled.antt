-- What the functions over an array of labels leave in it. Elements past the n vertices are as they came.
-- Assumes nothing.
use Rattle.std.specs.Prelude.{ℕ, ◌≡◌, Bool, not, List}
use Rattle.lists.specs.Put.{OnlyFirst}
use Rattle.graph.specs.Graph.{Graph}
use Rattle.rules.specs.Labels.{Labels, ends_joined, merge, merge_edge, together}
use Rattle.forest.specs.Arrays.{Agrees}

-- The labels at the start: the roots ("yards") are joined to each other, and no others.
pub record Started (roots : List ℕ) (n : ℕ) (before after : List ℕ) : Type 0 where
  pub labels : Agrees n after (together roots)
  pub rest : OnlyFirst n before after

-- u and v were joined: each vertex with v's label took u's, whatever labels the array held.
pub record Merged (n u v : ℕ) (before after : List ℕ) : Type 0 where
  pub labels : (label : Labels) → Agrees n before label → Agrees n after (merge label u v)
  pub rest : OnlyFirst n before after

-- The ends of edge e were joined, and r says whether they were not yet.
pub record Joined (g : Graph) (e : ℕ) (before after : List ℕ) (r : Bool) : Type 0 where
  pub new : (label : Labels) → Agrees g.vertices before label → r ≡ not (ends_joined g label e)
  pub labels : (label : Labels) → Agrees g.vertices before label → Agrees g.vertices after (merge_edge g label e)
  pub rest : OnlyFirst g.vertices before after
