-- `unrooted_pieces::components::lowest_vertex` meets its contract. The loop's invariant: v is the lowest of the start and the ends of the edges
-- before the index. Assumes nothing.
use mathlib.Core.Path.{◌≡◌}
use Rattle.graph.specs.Bytes.{graph_of}
use Rattle.unrooted_pieces.proofs.ComponentPieces.{lowest_up_to}
use Rattle.unrooted_pieces.proofs.components.lowest_vertex.Given as goal

abbrev pub invariant-loop-edge : goal.invariant-loop-edge
invariant-loop-edge l = l.v ≡ lowest_up_to l.g l.start l.edges l.edge-index
