-- `graph::Graph::edge_count` meets its contract: the graph has as many edges as the sheet.
-- Assumes nothing.
use Rattle.graph.proofs.Surfaced.{edge_count_sheet}
use Rattle.graph.proofs.Graph.edge_count.Goals as goal

pub returns : goal.returns
returns c =
    rw (← c.self.view_is, edge_count_sheet)
    (record { is = c.self.invariant.shown.counts.edges_are; small = c.self.invariant.edges_small })
