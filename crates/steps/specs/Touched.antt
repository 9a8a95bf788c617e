-- The parts in one pass over the steps, each by whether a test holds at one of its vertices (document 01, steps 4 and 5), and so the number of parts.
-- For the test "within the limit of root j" that is whether the part may go to root j. Only weights and tests are kept, so that a decision needs no
-- piece.
-- Assumes nothing.
use Rattle.std.specs.Prelude.{ℕ, ◌+◌, Bool, false, cond, ◌||◌, List, [], ◌∷◌, ◌++◌, length, get_or, set, replicate}
use Rattle.rules.specs.Split.{reaches_weight}
use Rattle.steps.specs.Steps.{step_child, step_above, step_weight}

-- The weight of what is left at each vertex, whether the test holds at a vertex of that, and of each part split off, whether it holds at one of its.
pub record Sweep : Type 0 where
  pub left : List ℕ
  pub touched : List Bool
  pub parts : List Bool

-- A child's piece: its edge, with both ends, and what is left at the child.
unfoldable pub touches_piece : (ℕ → Bool) → ℕ → Sweep → Bool
touches_piece test step s = get_or s.touched (step_child step) false || (test (step_child step) || test (step_above step))

-- A child's piece "becomes a part alone" where it reaches H, "otherwise it joins the bunch" of the vertex above,
-- "and a bunch reaching H becomes a part".
unfoldable pub sweep_step : ℕ → (ℕ → Bool) → ℕ → Sweep → Sweep
sweep_step H test step s =
    let above = step_above step in
    let piece = step_weight step + get_or s.left (step_child step) 0 in
    let bunch = get_or s.left above 0 + piece in
    let own = touches_piece test step s in
    let both = get_or s.touched above false || own in
    cond (reaches_weight H piece) (record { left = s.left; touched = s.touched; parts = s.parts ++ (own ∷ []) })
    (cond (reaches_weight H bunch) (record { left = set s.left above 0; touched = set s.touched above false; parts = s.parts ++ (both ∷ []) })
    (record { left = set s.left above bunch; touched = set s.touched above both; parts = s.parts }))

-- All steps, one after the other.
unfoldable pub sweep : ℕ → (ℕ → Bool) → List ℕ → Sweep → Sweep
sweep H test [] s = s
sweep H test (step ∷ steps) s = sweep H test steps (sweep_step H test step s)

-- For each part whether the test holds at one of its vertices, where nothing is left at any of 256 vertices to begin with.
unfoldable pub parts_touched : ℕ → (ℕ → Bool) → List ℕ → List Bool
parts_touched H test steps = (sweep H test steps (record { left = replicate 256 0; touched = replicate 256 false; parts = [] })).parts

-- A test that holds at no vertex.
abbrev pub nowhere : ℕ → Bool
nowhere v = false

-- The number of parts: whatever the test, the pass tells of each of them.
unfoldable pub parts_counted : ℕ → List ℕ → ℕ
parts_counted H steps = length (parts_touched H nowhere steps)
