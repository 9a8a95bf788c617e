-- `distance_table::nearest::nearest_vertex` meets its contract. The loop's invariant: v is a vertex of the part, and neither the start nor an end
-- of an edge before the index is nearer. Assumes nothing.
use Rattle.graph.specs.Bytes.{graph_of}
use Rattle.distance_table.proofs.NearestSoFar.{Nearing}
use Rattle.distance_table.proofs.nearest.nearest_vertex.Given as goal

abbrev pub invariant-loop-edge : goal.invariant-loop-edge
invariant-loop-edge l = Nearing l.g l.dist l.start l.edges l.edge-index l.v
