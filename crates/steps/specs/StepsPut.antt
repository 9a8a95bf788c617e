-- Writing the steps of a forest's trees once, and counting the parts at a threshold in one pass over them: what both ask and promise.
-- Assumes nothing.
use Rattle.std.specs.Prelude.{ℕ, ◌+◌, ◌≤◌, ◌<◌, ◌≡◌, Bool, List, map, length, get_or}
use Rattle.lists.specs.Lists.{any}
use Rattle.lists.specs.Put.{PutTo}
use Rattle.lists.specs.Scratch.{Scratch}
use Rattle.lists.specs.Segments.{segment}
use Rattle.graph.specs.Graph.{Graph}
use Rattle.rules.specs.Grow.{grow}
use Rattle.rules.specs.Split.{split, all_parts}
use Rattle.rules.specs.Distance.{tree_vertices}
use Rattle.edges.specs.Around.{Arcs, Around}
use Rattle.split.specs.SplitBelow.{unvisited}
use Rattle.steps.specs.Steps.{step_child, step_above}
use Rattle.steps.specs.Touched.{parts_touched, parts_counted}
use Rattle.steps.specs.StepsBelow.{StepsBelow}

-- What the node walk, with v passed, and the child-list walk ask: the arcs of as many vertices as there are marks, v one of them, and room
-- for a step for each vertex without a mark, from the place `at` on.
pub record StepsAsked (bounds arcs : List ℕ) (v at : ℕ) (marks array : List ℕ) : Type 0 where
  pub around : Arcs (length marks) bounds arcs
  pub inside : v < length marks
  pub room : at + unvisited (length marks) marks ≤ length array

-- What they promise: the steps below v stand from that place up to r, and each led to a vertex that has a mark now.
pub record StepsPut (bounds arcs : List ℕ) (v at : ℕ) (marks array marks' array' : List ℕ) (r : ℕ) : Type 0 where
  pub steps : List ℕ
  pub below : StepsBelow bounds arcs v (segment bounds arcs v) marks steps marks'
  pub put : PutTo at steps array array' r
  pub size : length marks' ≡ length marks
  pub fits : r + unvisited (length marks) marks' ≤ at + unvisited (length marks) marks

-- What writing the steps of all trees asks: the arcs of n vertices, roots among them, and room for a step for each vertex.
pub record AllStepsAsked (n : ℕ) (bounds arcs roots array : List ℕ) : Type 0 where
  pub around : Arcs n bounds arcs
  pub roots_inside : (j : ℕ) → j < length roots → get_or roots j 0 < n
  pub room : n ≤ length array

-- The same, where there is a mark for each vertex, and none is set.
pub record AllStepsReady (bounds arcs roots marks array : List ℕ) : Type 0 where
  pub asked : AllStepsAsked (length marks) bounds arcs roots array
  pub none_marked : (v : ℕ) → get_or marks v 0 ≡ 0

-- The vertices of the steps are below 256.
pub record StepsInside (steps : List ℕ) : Type 0 where
  pub children : (i : ℕ) → i < length steps → step_child (get_or steps i 0) < 256
  pub above : (i : ℕ) → i < length steps → step_above (get_or steps i 0) < 256

-- The steps of the trees that are grown along the edges from the roots: one pass counts the parts at every threshold, and one tells at which of
-- them a test holds.
pub record TreeSteps (g : Graph) (edges roots steps : List ℕ) : Type 0 where
  pub inside : StepsInside steps
  pub counts : (H : ℕ) → parts_counted H steps ≡ length (all_parts (map (split g H) (grow g edges roots)))
  pub touches : (H : ℕ) (test : ℕ → Bool) → parts_touched H test steps ≡ map (λ part. any test (tree_vertices g part)) (all_parts (map (split g H) (grow g edges roots)))

-- What is promised of the steps: they stand in the array's first r places, whatever graph's forest the arcs are of.
pub record AllStepsPut (n : ℕ) (bounds arcs roots array array' : List ℕ) (r : ℕ) : Type 0 where
  pub steps : List ℕ
  pub put : PutTo 0 steps array array' r
  pub of_graph : (g : Graph) (edges : List ℕ) → Around g edges bounds arcs → g.vertices ≡ n → TreeSteps g edges roots steps

-- The same, where marks are lent besides, as scratch.
pub record TreesPut (bounds arcs roots marks marks' array array' : List ℕ) (r : ℕ) : Type 0 where
  pub steps_put : AllStepsPut (length marks) bounds arcs roots array array' r
  pub marks_scratch : Scratch marks marks'

-- What counting asks: steps among 256 vertices, and a threshold below 2 to the 32nd, so that no sum wraps.
pub record Countable (H : ℕ) (steps : List ℕ) : Type 0 where
  pub inside : StepsInside steps
  pub threshold_most : H < 4294967296
