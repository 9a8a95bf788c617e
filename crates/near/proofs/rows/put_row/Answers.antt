-- `near::rows::put_row` meets its contract. The loop's invariant: the first bits are written, and `rest` has the others. Assumes nothing.
use native.Mathlib.Omega.{arith}
use Rattle.near.proofs.RowBits.{row_none, row_more, row_all}
use Rattle.near.proofs.rows.put_row.Goals as goal

pub loop-byte-init : goal.loop-byte-init
loop-byte-init c = row_none _

pub loop-byte-preserved : goal.loop-byte-preserved
loop-byte-preserved c = row_more c.loop-byte.invariant (omega arith)

pub returns : goal.returns
returns c = row_all c.loop-byte.invariant (omega arith)
