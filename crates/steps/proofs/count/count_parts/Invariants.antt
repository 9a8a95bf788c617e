-- `steps::count::count_parts` meets its contract. The loop's invariant: the pass over the steps that are left gives the answer, and what is left at each
-- vertex is below the threshold, so that no sum wraps. Assumes nothing.
use Rattle.steps.proofs.PartsCounting.{Counting}
use Rattle.steps.proofs.count.count_parts.Given as goal

abbrev pub invariant-loop-step : goal.invariant-loop-step
invariant-loop-step l = Counting l.steps l.h l.left l.parts l.step-index
