-- The weights of the components by their labels, and what they sum to.
-- Assumes nothing.
use Prim.Native.Nat.{ℕ}
use mathlib.Core.Bool.{cond}
use mathlib.Core.List.{List}
use lib.Dec.{eqb}
use Rattle.lists.specs.Count.{below}
use Rattle.lists.specs.Lists.{filter, sum_of}
use Rattle.graph.specs.Graph.{Graph, one_end}
use Rattle.rules.specs.Walk.{total_weight}
use Rattle.rules.specs.Labels.{Labels}
use Rattle.forest_laws.proofs.VertexLabels.{own}

-- The weight of the edges with a label.
abbrev pub label_weight : Graph → Labels → List ℕ → ℕ → ℕ
label_weight g label edges x = total_weight g (filter (λ e. eqb x (label (one_end g e))) edges)

-- The sum of a value of the components' weights, by the vertices that are their own label.
abbrev pub components_sum : Graph → Labels → List ℕ → (ℕ → ℕ) → ℕ
components_sum g label edges φ = sum_of (λ v. cond (own label v) (φ (label_weight g label edges v)) 0) (below g.vertices)
