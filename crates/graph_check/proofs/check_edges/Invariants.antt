-- `graph_check::check_edges` meets its contract. The loop's invariant: the first fault of all edges is the first from edge e on.
-- Assumes nothing.
use mathlib.Core.Path.{◌≡◌}
use Rattle.graph.specs.Bytes.{sheet_graph}
use Rattle.graph_check.proofs.Steps.{fault_from}
use Rattle.graph_check.proofs.check_edges.Given as goal

abbrev pub invariant-loop-e : goal.invariant-loop-e
invariant-loop-e l = fault_from l.g 0 ≡ fault_from l.g l.e
