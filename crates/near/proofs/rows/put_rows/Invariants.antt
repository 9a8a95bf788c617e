-- `near::rows::put_rows` meets its contract. The loop's invariant: the rows of the first i parts are written. Assumes nothing.
use Rattle.near.proofs.RowBits.{RowsPutting}
use Rattle.near.proofs.rows.put_rows.Given as goal

abbrev pub invariant-loop-i : goal.invariant-loop-i
invariant-loop-i l = RowsPutting l.k l.parts l.i l.initial.rows l.rows
