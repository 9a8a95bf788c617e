-- What is asked to say that there is no cover, and to decide a limit, over what is prepared once a question (document 01, steps 2 to 5).
-- Assumes nothing.
use Rattle.std.specs.Prelude.{ℕ, ◌≤◌, ◌<◌, ◌≡◌, false, List, length}
use Rattle.graph.specs.Graph.{Graph}
use Rattle.rules.specs.Cover.{rooted}
use Rattle.rules.specs.Order.{ordered}
use Rattle.rules.specs.Labels.{together}
use Rattle.rules.specs.Forest.{keep}
use Rattle.rules.specs.RootedTrial.{rooted_parts}
use Rattle.rules.specs.Search.{no_cover_exists}
use Rattle.rooted_state.specs.Prepared.{RootsGiven, WholeSteps, TrialAsked, PartsReady}

-- What saying "no cover" asks: the roots, and the whole forest.
pub record NoCoverAsked (g : Graph) (roots kept : List ℕ) : Type 0 where
  pub given : RootsGiven g roots
  pub forest : kept ≡ keep g (together roots) (ordered g)

-- What deciding a limit asks besides: the steps of the whole forest's trees, and that the whole graph joins every vertex to a root.
pub record RootedDecisionAsked (g : Graph) (roots : List ℕ) (limit : ℕ) (kept distances steps : List ℕ) : Type 0 where
  pub asked : TrialAsked g roots limit kept distances
  pub stepped : WholeSteps g roots steps
  pub some_cover : no_cover_exists g (rooted roots) ≡ false

-- What counting the parts asks besides: the steps of the whole forest's trees.
pub record CountReady (g : Graph) (roots : List ℕ) (limit : ℕ) (distances steps : List ℕ) : Type 0 where
  pub ready : PartsReady g roots limit distances
  pub stepped : WholeSteps g roots steps

-- What assigning some parts, and no more than roots, asks.
pub record FewReady (g : Graph) (roots : List ℕ) (limit : ℕ) (distances steps : List ℕ) : Type 0 where
  pub counted : CountReady g roots limit distances steps
  pub few : length (rooted_parts g roots limit) ≤ length roots
  pub limit_some : 0 < limit

-- What writing the roots near each part asks besides: a word for each root, and so for each part.
pub record NearReady (g : Graph) (roots : List ℕ) (limit : ℕ) (distances steps parts : List ℕ) : Type 0 where
  pub ready : FewReady g roots limit distances steps
  pub room : length roots ≤ length parts
