-- `graph::Graph::vertex_count` meets its contract: the graph has as many vertices as the sheet.
-- Assumes nothing.
use Rattle.graph.proofs.Surfaced.{vertices_sheet}
use Rattle.graph.proofs.Graph.vertex_count.Goals as goal

pub returns : goal.returns
returns c =
    rw (← c.self.view_is, vertices_sheet)
    (record { is = c.self.invariant.shown.counts.vertices_are; small = c.self.invariant.vertices_small })
