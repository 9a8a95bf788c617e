-- `near::vertices::near_vertices` meets its contract. The loop's invariant: the roots from j on are added to the word of each vertex. The measure
-- is j. Assumes nothing.
use Rattle.near.proofs.NearWords.{RootsAdding}
use Rattle.near.proofs.vertices.near_vertices.Given as goal

abbrev pub invariant-loop-j : goal.invariant-loop-j
invariant-loop-j l = RootsAdding l.k l.limit l.distances l.j l.initial.near l.near

abbrev pub decreases-loop-j : goal.decreases-loop-j
decreases-loop-j l = l.j
