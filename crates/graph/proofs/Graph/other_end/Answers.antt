-- `graph::Graph::other_end` meets its contract: the other end is the sheet's own.
-- Assumes nothing.
use Rattle.graph.proofs.Surfaced.{other_end_sheet}
use Rattle.graph.proofs.Graph.other_end.Goals as goal

pub other_end-requires : goal.other_end-requires
other_end-requires c = c.self.invariant.shown

pub returns : goal.returns
returns c =
    rw (← c.self.view_is, other_end_sheet c.self.inside.sheet.bytes.now c.self.inside.classes.now c.args.e) c.other_end.ensures
