-- `unrooted_pieces::tree_places::tree_places` meets its contract. The loop's invariant: the numbers of the components before the index are written,
-- and the next component's pieces begin at `first`. Assumes nothing.
use lib.ListN.{drop}
use Rattle.lists.proofs.PutOneByOne.{PutSoFar}
use Rattle.unrooted_pieces.specs.TreePlaces.{tree_places}
use Rattle.unrooted_pieces.proofs.tree_places.tree_places.Given as goal

abbrev pub invariant-loop-left : goal.invariant-loop-left
invariant-loop-left l = PutSoFar 0 (tree_places l.cuts 0 l.lefts) (tree_places l.cuts l.first (drop l.left-index l.lefts)) l.initial.out l.out l.next
