-- `graph::surface::adjust_edge` meets its contract: past the list's end a class counts 100 percent, so that the weight stays.
-- Assumes nothing.
use native.Mathlib.Omega.{arith}
use Rattle.graph.proofs.Surfaced.{past_same, class_within}
use Rattle.graph.proofs.surface.adjust_edge.Goals as goal

pub returns-then-classes-e : goal.returns-then-classes-e
returns-then-classes-e c = omega (arith, past_same c.args.weight c.args.classes.now c.args.e (omega arith))

pub returns : goal.returns
returns c = rw (class_within c.args.classes.now c.args.e (omega arith)) c.adjust.ensures
