-- `unrooted_pieces::components::write_keys` meets its contract. The loop's invariant: the keys of the pieces before i are written.
-- Assumes nothing.
use lib.ListN.{get_or}
use Rattle.lists.specs.Segments.{segment}
use Rattle.pieces.specs.Pieces.{tree_of}
use Rattle.unrooted_pieces.specs.Components.{key_of}
use Rattle.lists.proofs.SetUpTo.{SetUpTo}
use Rattle.unrooted_pieces.proofs.components.write_keys.Given as goal

abbrev pub invariant-loop-i : goal.invariant-loop-i
invariant-loop-i l = SetUpTo (λ j. key_of (tree_of (get_or l.pieces.starts.now j 0) (segment l.pieces.cuts.now l.pieces.members.now j))) l.i l.initial.keys l.keys
