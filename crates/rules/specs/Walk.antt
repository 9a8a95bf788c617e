-- Walks along the edges of a graph, and which vertices a set of edges links.
-- Assumes nothing.
use Rattle.std.specs.Prelude.{ℕ, ◌≡◌, List, [], ◌∷◌}
use Rattle.lists.specs.Lists.{sum_of}
use Rattle.lists.specs.Member.{◌∈◌}
use Rattle.graph.specs.Graph.{Graph, one_end, other_end, weight_of}

-- The edge e joins u and v, in either order.
pub data Joins (g : Graph) (e u v : ℕ) : Type 0 where
  onward : u ≡ one_end g e → v ≡ other_end g e → Joins g e u v
  back : u ≡ other_end g e → v ≡ one_end g e → Joins g e u v

-- The edges of the list, one after the other, lead from u to v. (A number past the last edge leads from vertex 0 to itself,
-- at no weight, and so nowhere new.)
pub data Walk (g : Graph) : List ℕ → ℕ → ℕ → Type 0 where
  stay : {u v : ℕ} → u ≡ v → Walk g [] u v
  step : {e : ℕ} {path : List ℕ} {u v w : ℕ} → Joins g e u w → Walk g path w v → Walk g (e ∷ path) u v

-- The weight of a list of edges.
unfoldable pub total_weight : Graph → List ℕ → ℕ
total_weight g edges = sum_of (weight_of g) edges

-- u and v are linked by edges of the list: some walk along them leads from u to v.
pub record Linked (g : Graph) (edges : List ℕ) (u v : ℕ) : Type 0 where
  pub path : List ℕ
  pub along : (e : ℕ) → e ∈ path → e ∈ edges
  pub leads : Walk g path u v
