-- `cover::read::field_from` meets its contract: a field that begins past the last byte is 0.
-- Assumes nothing.
use Prim.Native.Nat.{◌+◌, ◌*◌}
use mathlib.Core.Path.{sym}
use native.Mathlib.Omega.{arith}
use Rattle.graph.proofs.Fields.{u16_past}
use Rattle.cover.proofs.read.field_from.Goals as goal

pub returns-then-c-i : goal.returns-then-c-i
returns-then-c-i c = record { is = sym (u16_past c.args.c.now (c.args.from + 2 * c.args.i) (omega arith)); small = omega arith }

pub overflow_add-from : goal.overflow_add-from
overflow_add-from c = omega (arith, c.well_formed.0.1)
