-- `graph::u16_within` meets its contract: the field is made of two bytes.
-- Assumes nothing.
use native.Mathlib.Omega.{arith}
use Rattle.graph.specs.Bytes.{u16_at}
use Rattle.graph.proofs.u16_within.Goals as goal

pub returns : goal.returns
unfolding u16_at
returns c = omega arith
