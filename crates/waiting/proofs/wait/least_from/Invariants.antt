-- `waiting::wait::least_from` meets its contract. The loop's invariant: the least of the first i of each half is known.
-- Assumes nothing.
use Rattle.waiting.specs.Waiting.{LeastFrom}
use Rattle.waiting.proofs.wait.least_from.Given as goal

abbrev pub invariant-loop-i : goal.invariant-loop-i
invariant-loop-i l = LeastFrom l.keys l.from l.i l.one × LeastFrom l.keys l.half l.i l.other
