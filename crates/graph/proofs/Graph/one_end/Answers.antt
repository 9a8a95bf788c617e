-- `graph::Graph::one_end` meets its contract: the one end is the sheet's own.
-- Assumes nothing.
use Rattle.graph.proofs.Surfaced.{one_end_sheet}
use Rattle.graph.proofs.Graph.one_end.Goals as goal

pub one_end-requires : goal.one_end-requires
one_end-requires c = c.self.invariant.shown

pub returns : goal.returns
returns c =
    rw (← c.self.view_is, one_end_sheet c.self.inside.sheet.bytes.now c.self.inside.classes.now c.args.e) c.one_end.ensures
