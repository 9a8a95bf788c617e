-- `near::vertices::add_run` meets its contract. The loop's invariant: the run is added to the words of the first v vertices. Assumes nothing.
use Rattle.lists.proofs.SetUpTo.{SetUpTo}
use Rattle.near.proofs.NearWords.{word_with_run}
use Rattle.near.proofs.vertices.add_run.Given as goal

abbrev pub invariant-loop-v : goal.invariant-loop-v
invariant-loop-v l = SetUpTo (word_with_run l.r l.limit l.row l.initial.near) l.v l.initial.near l.near
