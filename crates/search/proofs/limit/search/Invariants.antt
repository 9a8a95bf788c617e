-- `search::limit::search` meets its contract. The loop's invariant: from low and high, with the trials left, the search ends where it would have
-- ended. The measure is how many trials are left. Assumes nothing.
use Rattle.prepare.specs.Crews.{the_crews}
use Rattle.search.proofs.SearchLoop.{SearchUnderway}
use Rattle.search.proofs.limit.search.Given as goal

abbrev pub invariant-loop-left : goal.invariant-loop-left
invariant-loop-left l = SearchUnderway l.g (the_crews l.prepared.crews) l.sum l.budget l.low l.high l.left

abbrev pub decreases-loop-left : goal.decreases-loop-left
decreases-loop-left l = l.left
