-- The steps of the whole forest's trees may be written, and are what every decision counts by.
-- Assumes nothing.
use Prim.Native.Nat.{ℕ, ◌≤◌}
use mathlib.Core.Path.{◌≡◌, sym, subst}
use mathlib.Core.List.{List}
use native.Mathlib.Omega.{arith}
use lib.ListN.{length, take}
use Rattle.lists.proofs.Put.{put_taken, put_fits, put_length}
use Rattle.graph.specs.Graph.{Graph}
use Rattle.edges.specs.Around.{Arcs}
use Rattle.steps.specs.StepsPut.{AllStepsAsked, AllStepsPut}
use Rattle.rooted_state.specs.Prepared.{RootsGiven, WholeAround, WholeSteps}

module _ {g : Graph} {roots bounds arcs : List ℕ} (given : RootsGiven g roots) (around : WholeAround g roots bounds arcs) {n : ℕ}
    (n_is : n ≡ g.vertices) where
  pub steps_asked : {steps : List ℕ} → length steps ≡ 256 → AllStepsAsked n bounds arcs roots steps
  steps_asked size =
      record {
        around = subst (λ m. Arcs m bounds arcs) (sym n_is) around.sound;
        roots_inside = λ j h. omega (arith, given.inside j h);
        room = omega (arith, given.valid.vertices_most);
      }

  pub steps_written : {before steps : List ℕ} {r : ℕ} → AllStepsPut n bounds arcs roots before steps r → WholeSteps g roots (take r steps)
  steps_written w = rw (put_taken w.put) (w.of_graph g _ around (sym n_is))

-- Its steps stand in the array.
pub steps_fit : {n : ℕ} {bounds arcs roots before steps : List ℕ} {r : ℕ} → AllStepsPut n bounds arcs roots before steps r → r ≤ length steps
steps_fit w = omega (arith, put_fits w.put, put_length w.put.put)
