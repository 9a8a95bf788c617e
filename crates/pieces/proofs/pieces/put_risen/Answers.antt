-- `pieces::pieces::put_risen` meets its contract: the edges are copied, and then sorted where they stand. Assumes nothing.
use mathlib.Core.Path.{ap, ◌∙◌}
use Rattle.lists.specs.Sort.{rise}
use Rattle.pieces.proofs.LaidLists.{risen_put}
use Rattle.pieces.proofs.pieces.put_risen.Goals as goal

pub returns : goal.returns
returns c = risen_put c.args.edges.now c.args.out.now c.requires (c.rise_edges.ensures ∙ ap rise c.copy_from_slice.ensures.after)
