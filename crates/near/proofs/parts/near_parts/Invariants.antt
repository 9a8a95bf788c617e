-- `near::parts::near_parts` meets its contract. The loop's invariant: for each root the pass over the steps that are left gives the answer, and what is left
-- at each vertex is below the threshold, so that no sum wraps. Assumes nothing.
use Rattle.near.proofs.PartsMarking.{Marking}
use Rattle.near.proofs.parts.near_parts.Given as goal

abbrev pub invariant-loop-step : goal.invariant-loop-step
invariant-loop-step l = Marking l.h l.steps l.near l.initial.parts l.parts l.left l.beside l.r l.step-index
