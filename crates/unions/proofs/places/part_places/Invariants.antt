-- `unions::places::part_places` meets its contract. The loop's invariant: the places before the first piece of the next tree are
-- written. Assumes nothing.
use lib.ListN.{drop}
use Rattle.lists.proofs.PutOneByOne.{PutSoFar}
use Rattle.unions.specs.Places.{places_between}
use Rattle.unions.proofs.places.part_places.Given as goal

abbrev pub invariant-loop-left : goal.invariant-loop-left
invariant-loop-left l = PutSoFar 0 (places_between 0 l.lefts) (places_between l.first (drop l.left-index l.lefts)) l.initial.out l.out l.next
