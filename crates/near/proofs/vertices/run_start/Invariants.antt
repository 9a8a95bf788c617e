-- `near::vertices::run_start` meets its contract. The loop's invariant: from i to j each root is at the vertex of the next. Assumes nothing.
use Rattle.near.specs.Vertices.{RunFound}
use Rattle.near.proofs.vertices.run_start.Given as goal

abbrev pub invariant-loop-i : goal.invariant-loop-i
invariant-loop-i l = RunFound l.roots l.j l.i
