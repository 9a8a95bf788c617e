-- What hangs below a vertex is grown over arcs with an array of marks, and written as steps, as a relation. It is `SplitBelow` before any
-- threshold is known: the same arcs lead to the same children.
-- Assumes nothing.
use Rattle.std.specs.Prelude.{ℕ, ◌<◌, ◌≡◌, true, false, List, [], ◌∷◌, ◌++◌, length}
use Rattle.lists.specs.Segments.{segment}
use Rattle.edges.specs.Around.{arc_head, arc_weight}
use Rattle.split.specs.SplitBelow.{unmarked, passing}
use Rattle.steps.specs.Steps.{step_of}

-- From the vertex v, its arcs still to be looked at and the marks, to the steps and the marks then. A child's step stands behind the steps
-- of what hangs below the child.
pub data StepsBelow (bounds arcs : List ℕ) : ℕ → List ℕ → List ℕ → List ℕ → List ℕ → Type 0 where
  steps_done : {v : ℕ} {marks : List ℕ} → StepsBelow bounds arcs v [] marks [] marks
  steps_past : {v arc : ℕ} {rest marks steps last : List ℕ} → unmarked marks (arc_head arc) ≡ false
      → StepsBelow bounds arcs v rest marks steps last → StepsBelow bounds arcs v (arc ∷ rest) marks steps last
  steps_child : {v arc : ℕ} {rest marks inner middle later last : List ℕ} → unmarked marks (arc_head arc) ≡ true → arc_head arc < length marks
      → StepsBelow bounds arcs (arc_head arc) (segment bounds arcs (arc_head arc)) (passing (arc_head arc) marks) inner middle
      → StepsBelow bounds arcs v rest middle later last
      → StepsBelow bounds arcs v (arc ∷ rest) marks (inner ++ (step_of (arc_head arc) v (arc_weight arc) ∷ later)) last

-- The steps of the roots' trees, one tree after the other.
pub data StepsFrom (bounds arcs : List ℕ) : List ℕ → List ℕ → List ℕ → Type 0 where
  no_roots : {marks : List ℕ} → StepsFrom bounds arcs [] marks []
  steps_root : {r : ℕ} {roots marks inner middle later : List ℕ} → r < length marks
      → StepsBelow bounds arcs r (segment bounds arcs r) (passing r marks) inner middle → StepsFrom bounds arcs roots middle later
      → StepsFrom bounds arcs (r ∷ roots) marks (inner ++ later)
