-- `unrooted_pieces::components::set_lowest` meets its contract. The loop's invariant: the pieces before i start at their lowest vertices.
-- Assumes nothing.
use lib.ListN.{get_or}
use Rattle.lists.specs.Segments.{segment}
use Rattle.graph.specs.Bytes.{graph_of}
use Rattle.pieces.specs.Pieces.{tree_of}
use Rattle.unrooted_pieces.specs.Components.{lowest_of}
use Rattle.lists.proofs.SetUpTo.{SetUpTo}
use Rattle.unrooted_pieces.proofs.components.set_lowest.Given as goal

abbrev pub invariant-loop-i : goal.invariant-loop-i
invariant-loop-i l = SetUpTo (λ j. lowest_of l.g (tree_of (get_or l.initial.starts j 0) (segment l.cuts l.members j))) l.i l.initial.starts l.starts
