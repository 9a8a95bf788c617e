-- `graph::u32_within` meets its contract: the field is made of two fields of two bytes.
-- Assumes nothing.
use native.Mathlib.Omega.{arith}
use Rattle.graph.specs.Bytes.{u32_at}
use Rattle.graph.proofs.u32_within.Goals as goal

pub returns : goal.returns
unfolding u32_at
returns c = omega arith
