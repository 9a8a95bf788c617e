-- `graph::u16_at` meets its contract: the field lies within the bytes, or is the last byte alone, or is 0.
-- Assumes nothing.
use Prim.Native.Nat.{◌+◌}
use native.Mathlib.Omega.{arith}
use Rattle.graph.specs.Bytes.{u16_at}
use Rattle.graph.proofs.Fields.{byte_past, u16_past}
use Rattle.graph.proofs.u16_at.Goals as goal

pub returns-then-b-at : goal.returns-then-b-at
returns-then-b-at c = omega (arith, u16_past c.args.b.now c.args.at c.if-b-at.true)

pub returns-then-b-at-eq1 : goal.returns-then-b-at-eq1
unfolding u16_at
returns-then-b-at-eq1 c = omega (arith, byte_past c.args.b.now (c.args.at + 1) (omega arith))
