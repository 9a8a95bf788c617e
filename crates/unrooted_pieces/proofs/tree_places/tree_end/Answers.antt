-- `unrooted_pieces::tree_places::tree_end` meets its contract: the definition takes the arm that the tests say. Assumes nothing.
use mathlib.Core.Path.{sym}
use Rattle.unrooted_pieces.proofs.TreesPlaced.{end_alone, end_dropped, end_kept}
use Rattle.unrooted_pieces.proofs.tree_places.tree_end.Goals as goal

pub returns-then-first-left : goal.returns-then-first-left
returns-then-first-left c = sym (end_alone c.args.cuts.now c.args.first c.args.left c.if-first-left.true)

pub returns-then-cuts-left : goal.returns-then-cuts-left
returns-then-cuts-left c = sym (end_dropped c.args.cuts.now c.args.first c.args.left c.if-first-left.false c.if-cuts-left.true)

pub returns : goal.returns
returns c = sym (end_kept c.args.cuts.now c.args.first c.args.left c.if-cuts-left.false)
