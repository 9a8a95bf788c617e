-- The forest that is given, at a limit or whole.
-- Assumes nothing.
use Rattle.std.specs.Prelude.{ℕ, ◌≡◌, List, []}
use Rattle.graph.specs.Graph.{Graph}
use Rattle.graph.specs.Valid.{Valid}
use Rattle.rules.specs.Order.{ordered}
use Rattle.rules.specs.Labels.{apart, together}
use Rattle.rules.specs.Forest.{keep, forest}

-- A valid graph, and the edges of its forest at the limit, where all vertices begin apart.
pub record ForestGiven (g : Graph) (edges : List ℕ) (limit : ℕ) : Type 0 where
  pub valid : Valid g
  pub are : edges ≡ forest g apart limit

-- A valid graph and its whole forest, where no vertex is a root.
pub record ForestKept (g : Graph) (kept : List ℕ) : Type 0 where
  pub valid : Valid g
  pub forest_is : kept ≡ keep g (together []) (ordered g)
