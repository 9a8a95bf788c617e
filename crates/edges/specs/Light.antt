-- Edges within a limit (document 01, step 1: "drop lines heavier than B").
-- Assumes nothing.
use Rattle.std.specs.Prelude.{ℕ, ◌≤◌, ◌≡◌, List, length, take, leb}
use Rattle.lists.specs.Lists.{filter}
use Rattle.graph.specs.Graph.{Graph, weight_of}

-- The edges of weight at most the limit, in their order.
abbrev pub light_of : Graph → ℕ → List ℕ → List ℕ
light_of g limit edges = filter (λ e. leb (weight_of g e) limit) edges

-- They are the first r of the edges.
pub record LightFront (g : Graph) (limit : ℕ) (edges : List ℕ) (r : ℕ) : Type 0 where
  pub few : r ≤ length edges
  pub front : take r edges ≡ light_of g limit edges
