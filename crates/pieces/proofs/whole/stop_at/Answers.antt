-- `pieces::whole::stop_at` meets its contract: the labels that the edges make are held against the first root's. Assumes nothing.
use native.Mathlib.Omega.{arith}
use Rattle.lists.proofs.Places.{at_place}
use Rattle.pieces.proofs.WholeForest.{stop_found}
use Rattle.pieces.proofs.whole.stop_at.Goals as goal

pub lowest_unjoined-requires : goal.lowest_unjoined-requires
lowest_unjoined-requires c = (omega (arith, c.requires.roots_inside _ (at_place 0 c.args.roots.now 0 c.requires.roots_some)), omega arith)

pub returns : goal.returns
returns c = stop_found c.vertex_count.ensures.is c.wide.ensures.is c.label_edges.ensures c.lowest_unjoined.ensures
