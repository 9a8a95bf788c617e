-- `graph::Graph::weight` meets its contract: the weight is the sheet's, adjusted by the edge's class.
-- Assumes nothing.
use Rattle.graph.proofs.Surfaced.{weight_by_class}
use Rattle.graph.proofs.Graph.weight.Goals as goal

pub weight-requires : goal.weight-requires
weight-requires c = c.self.invariant.shown

pub returns : goal.returns
returns c =
    rw (← c.self.view_is, weight_by_class c.self.inside.sheet.bytes.now c.self.inside.classes.now c.args.e, ← c.weight.ensures.is)
    c.adjust_edge.ensures
