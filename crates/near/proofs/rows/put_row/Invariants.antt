-- `near::rows::put_row` meets its contract. The loop's invariant: the first bits are written, and `rest` has the others. Assumes nothing.
use Rattle.near.proofs.RowBits.{RowPutting}
use Rattle.near.proofs.rows.put_row.Given as goal

abbrev pub invariant-loop-byte : goal.invariant-loop-byte
invariant-loop-byte l = RowPutting l.bits l.byte-index l.rest l.initial.row l.row
