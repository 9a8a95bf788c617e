-- `graph::sheet_vertices` meets its contract: the graph's number of vertices is the first field.
-- Assumes nothing.
use Rattle.graph.specs.Bytes.{sheet_graph}
use Rattle.graph.proofs.sheet_vertices.Goals as goal

pub returns : goal.returns
unfolding sheet_graph
returns c = c.u16_at.ensures
