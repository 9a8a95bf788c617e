-- `steps::put_steps` meets its contract: the first n of 256 zeros are no marks. Assumes nothing.
use Prim.Native.Nat.{ℕ}
use mathlib.Core.Path.{◌≡◌, sym}
use mathlib.Core.List.{List}
use lib.ListN.{take, replicate}
use Rattle.steps.specs.StepsPut.{AllStepsAsked, AllStepsReady, AllStepsPut}
use Rattle.split.proofs.NoMarks.{zeros_count, zeros_front}
use Rattle.steps.proofs.put_steps.Goals as goal

-- The zeros are no marks.
no-marks : {n : ℕ} {bounds arcs roots array : List ℕ} → AllStepsAsked n bounds arcs roots array → AllStepsReady bounds arcs roots (take n (replicate 256 0)) array
no-marks {n} a = record { asked = rw (zeros_count n a.around.few) a; none_marked = λ v. zeros_front 256 n v }

-- What is promised of as many vertices is promised of n.
walk_of : {m n : ℕ} {bounds arcs roots array array' : List ℕ} {r : ℕ} → m ≡ n → AllStepsPut m bounds arcs roots array array' r → AllStepsPut n bounds arcs roots array array' r
walk_of {m} {n} same x = let q : m ≡ n = same in rw q at x

pub slice_bounds-put_trees-end : goal.slice_bounds-put_trees-end
slice_bounds-put_trees-end c = sym (zeros_count c.args.n c.requires.around.few)

pub put_trees-requires : goal.put_trees-requires
put_trees-requires c = no-marks c.requires

pub returns : goal.returns
returns c = walk_of (zeros_count c.args.n c.requires.around.few) c.put_trees.ensures.steps_put
