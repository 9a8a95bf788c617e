-- `graph::u32_at` meets its contract: the field is made of two fields of two bytes, and where the first lies past the end it is 0.
-- Assumes nothing.
use native.Mathlib.Omega.{arith}
use Rattle.graph.specs.Bytes.{u32_at}
use Rattle.graph.proofs.Fields.{u32_past}
use Rattle.graph.proofs.u32_at.Goals as goal

pub returns-then-b-at : goal.returns-then-b-at
returns-then-b-at c = omega (arith, u32_past c.args.b.now c.args.at c.if-b-at.true)

pub returns : goal.returns
unfolding u32_at
returns c = omega arith
