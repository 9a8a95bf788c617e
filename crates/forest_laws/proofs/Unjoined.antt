-- The lowest vertex that is joined to no root: there is none exactly where each vertex has the roots' label, and a vertex that is found is a
-- vertex of the graph with another label.
-- Assumes nothing.
use Prim.Native.Nat.{ℕ, ◌<◌}
use mathlib.Core.Path.{◌≡◌}
use mathlib.Core.Bool.{Bool, not, false≢true}
use mathlib.Core.List.{List, head_d}
use mathlib.Core.Logic.{◌↔◌}
use mathlib.Core.Option.{none, some}
use borrow.Author.Tests.{eqb-true, eq-eqb, not-false}
use Rattle.lists.specs.Count.{below}
use Rattle.lists.proofs.Below.{in_below, of_below}
use Rattle.lists.proofs.First.{first_none, first_some, none_first}
use Rattle.graph.specs.Graph.{Graph}
use Rattle.rules.specs.Labels.{Labels, joined}
use Rattle.rules.specs.Forest.{unjoined}

module _ (g : Graph) (roots : List ℕ) (label : Labels) where
  -- a vertex is joined to no root
  outside : ℕ → Bool
  outside v = not (joined label (head_d roots 0) v)

  -- none is unjoined exactly where each vertex has the roots' label
  pub unjoined_none : (unjoined g roots label ≡ none) ↔ ((v : ℕ) → v < g.vertices → label (head_d roots 0) ≡ label v)
  unfolding unjoined joined outside
  unjoined_none = (
    λ q v h. eqb-true (label (head_d roots 0)) (label v) (not-false (joined label (head_d roots 0) v) (first_none outside (below g.vertices) q v (in_below g.vertices h))),
    λ same. none_first outside (below g.vertices) (λ v m. rw (eq-eqb (label (head_d roots 0)) (label v) (same v (of_below g.vertices m)))),
  )

  -- the vertex that is found has another label
  pub unjoined_some : {v : ℕ} → unjoined g roots label ≡ some v → (v < g.vertices) × (label (head_d roots 0) ≡ label v → ⊥)
  unfolding unjoined joined outside
  unjoined_some {v} q =
      let (m, t) = first_some outside (below g.vertices) q in
      (of_below g.vertices m, λ same. false≢true (rw (eq-eqb (label (head_d roots 0)) (label v) same) at t))
