-- `graph::one_end_at` meets its contract: the end is the first field of the edge's pair, and past the last edge the definition has 0.
-- Assumes nothing.
use mathlib.Core.Path.{ap}
use native.Mathlib.Omega.{arith}
use Rattle.graph.specs.Graph.{Edge}
use Rattle.graph.specs.Bytes.{sheet_graph}
use Rattle.graph.proofs.Decoded.{one_end_at, ends_within, edge_past}
use Rattle.graph.proofs.one_end_at.Goals as goal

pub overflow_mul-e : goal.overflow_mul-e
overflow_mul-e c = record { fits = omega (arith, ends_within c.args.b.now c.args.e (omega arith)) }

pub overflow_add-e : goal.overflow_add-e
overflow_add-e c = record { fits = omega (arith, ends_within c.args.b.now c.args.e (omega arith)) }

pub u16_within-requires : goal.u16_within-requires
u16_within-requires c = omega (arith, ends_within c.args.b.now c.args.e (omega arith))

pub returns-then-e-m : goal.returns-then-e-m
returns-then-e-m c = rw (one_end_at c.args.b.now c.args.e (omega arith)) c.u16_within.ensures

pub returns-else-e-m : goal.returns-else-e-m
returns-else-e-m c = omega (arith, ap (λ (x : Edge). x.one) (edge_past (sheet_graph c.args.b.now) c.args.e (omega arith)))
