-- `forest::lowest::lowest_of_each` meets its contract. The loop's invariant: the lowest vertices below v are written, and the labels of the
-- vertices below v have been met. Assumes nothing.
use Rattle.forest.proofs.LowestVertices.{Listing, Meeting}
use Rattle.forest.proofs.lowest.lowest_of_each.Given as goal

abbrev pub invariant-loop-v : goal.invariant-loop-v
invariant-loop-v l = record { listing : Listing l.label l.n l.v l.initial.out l.out l.r; meeting : Meeting l.label l.v l.met }
