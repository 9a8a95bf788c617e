-- `graph::sheet_edges` meets its contract: where the length is right the head says how many edges there are, and elsewhere there are none.
-- Assumes nothing.
use native.Mathlib.Omega.{arith}
use Rattle.graph.proofs.Decoded.{edges_sized, edges_unsized}
use Rattle.graph.proofs.sheet_edges.Goals as goal

pub returns-then-b-lt4 : goal.returns-then-b-lt4
returns-then-b-lt4 c = omega (arith, edges_unsized c.args.b.now (omega arith))

pub returns-then-b-m : goal.returns-then-b-m
returns-then-b-m c = omega (arith, edges_sized c.args.b.now (omega arith))

pub returns-else-b-m : goal.returns-else-b-m
returns-else-b-m c = omega (arith, edges_unsized c.args.b.now (omega arith))
