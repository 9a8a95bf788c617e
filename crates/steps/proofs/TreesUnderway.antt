-- Writing the steps of the roots' trees, under way, and what is promised when all are written.
-- Assumes nothing.
use Prim.Native.Nat.{ℕ, ◌+◌, ◌≤◌, ◌<◌}
use mathlib.Core.Path.{◌≡◌, refl, sym, ap, ◌∙◌}
use mathlib.Core.List.{List, [], ◌∷◌, ◌++◌, append_assoc, append-nil}
use native.Mathlib.Numerals.{add-one}
use native.Mathlib.Omega.{arith}
use lib.ListN.{length, drop, get_or, length-map, length-set}
use lib.Seq.{drop-cons, drop-length}
use Rattle.lists.specs.Put.{PutTo}
use Rattle.lists.proofs.Put.{put_length, put_behind, put_to_none}
use Rattle.split.specs.SplitBelow.{unvisited, passing}
use Rattle.steps.specs.Touched.{nowhere, parts_counted}
use Rattle.steps.specs.StepsBelow.{StepsFrom, no_roots, steps_root}
use Rattle.steps.specs.StepsPut.{StepsAsked, StepsPut, AllStepsReady, AllStepsPut}
use Rattle.split.proofs.Unvisited.{unvisited_fewer, unvisited_most}
use Rattle.steps.proofs.StepsInside.{steps_inside}
use Rattle.steps.proofs.TreesSwept.{walk_touched}

-- The steps of the first j roots' trees are written: whatever steps the other roots give, they stand behind them.
pub record TreesUnderway (bounds arcs roots first array₀ : List ℕ) (j : ℕ) (marks array : List ℕ) (next : ℕ) : Type 0 where
  pub within : j ≤ length roots
  pub size : length marks ≡ length first
  pub steps : List ℕ
  pub put : PutTo 0 steps array₀ array next
  pub fits : next + unvisited (length first) marks ≤ length first
  pub rest : (later : List ℕ) → StepsFrom bounds arcs (drop j roots) marks later → StepsFrom bounds arcs roots first (steps ++ later)

pub trees_first : (bounds arcs roots first array : List ℕ) → TreesUnderway bounds arcs roots first array 0 first array 0
trees_first bounds arcs roots first array =
    record {
      within = omega arith;
      size = refl;
      steps = [];
      put = put_to_none array 0 (omega arith);
      fits = omega (arith, unvisited_most (length first) first);
      rest = λ later x. x;
    }

module _ {bounds arcs roots first array₀ : List ℕ} {j : ℕ} {marks array : List ℕ} {next : ℕ} (u : TreesUnderway bounds arcs roots first array₀ j marks array next)
    (ready : AllStepsReady bounds arcs roots first array₀) where
  -- When all roots are done, the steps are written.
  pub trees_done : length roots ≤ j → AllStepsPut (length first) bounds arcs roots array₀ array next
  unfolding parts_counted
  trees_done h =
      let q : j ≡ length roots = omega (arith, u.within) in
      let nothing : drop j roots ≡ [] = ap (λ k. drop k roots) q ∙ drop-length roots in
      let all : StepsFrom bounds arcs roots first u.steps = rw (append-nil u.steps) at (u.rest [] (rw nothing no_roots)) in
      record {
        steps = u.steps;
        put = u.put;
        of_graph =
            λ g edges around n_is.
            let touches = walk_touched around (sym n_is) ready.none_marked all in
            record { inside = steps_inside all ready.asked.around.few; counts = λ H. ap length (touches H nowhere) ∙ simp length-map; touches = touches };
      }

  -- One root more: the steps below it may be written,
  module _ (more : j < length roots) where
    abbrev root : ℕ
    root = get_or roots j 0

    root_inside : root < length marks
    root_inside = omega (arith, ready.asked.roots_inside j more, u.size)

    same_size : length (passing root marks) ≡ length first
    same_size = length-set marks root 1 ∙ u.size

    pub root_asked : StepsAsked bounds arcs root next (passing root marks) array
    root_asked =
        record {
          around = rw same_size ready.asked.around;
          inside = rw length-set root_inside;
          room = rw same_size (omega (arith, unvisited_fewer marks root (length first), u.fits, ready.asked.room, put_length u.put.put));
        }

    -- and stand behind the others then.
    pub trees_more : {marks' array' : List ℕ} {end : ℕ} → StepsPut bounds arcs root next (passing root marks) array marks' array' end
        → TreesUnderway bounds arcs roots first array₀ (j + 1) marks' array' end
    trees_more below =
        let fits_then = rw same_size at below.fits in
        let rest : drop j roots ≡ root ∷ drop (j + 1) roots = drop-cons roots j 0 more ∙ ap (λ k. root ∷ drop k roots) (sym (add-one j)) in
        record {
          within = omega arith;
          size = below.size ∙ same_size;
          steps = u.steps ++ below.steps;
          put = put_behind u.put below.put;
          fits = omega (arith, fits_then, unvisited_fewer marks root (length first), u.fits);
          rest =
              λ later x.
              rw (append_assoc u.steps below.steps) (u.rest (below.steps ++ later) (rw rest (steps_root root_inside below.below x)));
        }
