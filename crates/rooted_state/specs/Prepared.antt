-- What is prepared once a question: the order of the edges, the whole forest with the edges around each vertex, and the distances from all roots
-- with their last edges; and what a trial at a limit asks of it. One preparation serves every limit (document 01, steps 1, 2 and 5).
-- Assumes nothing.
use Rattle.std.specs.Prelude.{ℕ, ◌≤◌, ◌<◌, ◌≡◌, List, length, get_or}
use Rattle.std.proofs.Math.Option.{none}
use Rattle.lists.specs.Sort.{rise}
use Rattle.graph.specs.Graph.{Graph}
use Rattle.graph.specs.Valid.{Valid}
use Rattle.rules.specs.Order.{ordered}
use Rattle.rules.specs.Labels.{together}
use Rattle.rules.specs.Forest.{keep}
use Rattle.rules.specs.RootedTrial.{unjoined_at}
use Rattle.rules.specs.Questions.{most_limit}
use Rattle.edges.specs.Around.{Around}
use Rattle.steps.specs.StepsPut.{TreeSteps}
use Rattle.distance_table.specs.Tabled.{DistancesTabled, LastsTabled}

-- A valid graph, and roots among its vertices, at least one and at most 32.
pub record RootsGiven (g : Graph) (roots : List ℕ) : Type 0 where
  pub valid : Valid g
  pub inside : (j : ℕ) → j < length roots → get_or roots j 0 < g.vertices
  pub some : 1 ≤ length roots
  pub few : length roots ≤ 32

-- What deciding a limit takes, beside a walk: the roots, the whole forest by weight, and the distances from the roots.
pub record Decidable (g : Graph) (roots kept distances : List ℕ) : Type 0 where
  pub given : RootsGiven g roots
  pub forest : kept ≡ keep g (together roots) (ordered g)
  pub distances_are : DistancesTabled g roots distances

-- The edges around each vertex over the whole forest.
abbrev pub WholeAround : Graph → List ℕ → List ℕ → List ℕ → Type 0
WholeAround g roots bounds arcs = Around g (rise (keep g (together roots) (ordered g))) bounds arcs

-- The steps of the whole forest's trees, by which every limit's parts are counted, and their vertices passed.
abbrev pub WholeSteps : Graph → List ℕ → List ℕ → Type 0
WholeSteps g roots steps = TreeSteps g (rise (keep g (together roots) (ordered g))) roots steps

-- What writing an answer takes besides: the edges around each vertex, all edges in order, and the last edges of the shortest paths.
pub record Prepared (g : Graph) (roots order kept bounds arcs distances lasts : List ℕ) : Type 0 where
  pub decidable : Decidable g roots kept distances
  pub around : WholeAround g roots bounds arcs
  pub in_order : order ≡ ordered g
  pub last_edges : LastsTabled g roots distances lasts

-- The distances from the roots, and a limit no larger than document 01 has it.
pub record LimitReady (g : Graph) (roots : List ℕ) (limit : ℕ) (distances : List ℕ) : Type 0 where
  pub given : RootsGiven g roots
  pub distances_are : DistancesTabled g roots distances
  pub limit_most : limit ≤ most_limit

-- What a trial at a limit asks: what is prepared, and a limit no larger than document 01 has it.
pub record TrialAsked (g : Graph) (roots : List ℕ) (limit : ℕ) (kept distances : List ℕ) : Type 0 where
  pub decidable : Decidable g roots kept distances
  pub limit_most : limit ≤ most_limit

-- What a trial asks for its parts: the edges within the limit join every vertex to a root.
pub record PartsReady (g : Graph) (roots : List ℕ) (limit : ℕ) (distances : List ℕ) : Type 0 where
  pub asked : TrialAsked g roots limit (keep g (together roots) (ordered g)) distances
  pub joined : unjoined_at g roots limit ≡ none
