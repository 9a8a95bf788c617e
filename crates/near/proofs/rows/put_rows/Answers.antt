-- `near::rows::put_rows` meets its contract. The loop's invariant: the rows of the first i parts are written. Assumes nothing.
use Prim.Native.Nat.{ℕ, ◌+◌, ◌*◌, ◌-◌, ◌≤◌, ◌<◌}
use mathlib.Core.Path.{◌≡◌}
use mathlib.Core.List.{List}
use native.Mathlib.Omega.{arith}
use lib.ListN.{length}
use Rattle.distance_table.proofs.RowPlaces.{row_room}
use Rattle.near.proofs.RowBits.{RowsPutting, rows_none, rows_put, rows_all}
use borrow.Author.Rules.{rules}
use Rattle.near.proofs.rows.put_rows.Goals as goal

-- There is room for the next row.
row_fits : {k i : ℕ} {parts before after : List ℕ} → RowsPutting k parts i before after → i < length parts → length parts * k ≤ length before
    → i * k + k ≤ length after
row_fits {k} {i} {parts} m more room = row_room i (length parts) k _ more (omega (arith, m.size))

pub loop-i-init : goal.loop-i-init
loop-i-init c = rows_none _

pub overflow_mul-from : goal.overflow_mul-from
overflow_mul-from c = let fits = row_fits c.loop-i.invariant c.loop-i-test.true c.requires in search rules

pub overflow_add-to : goal.overflow_add-to
overflow_add-to c = let fits = row_fits c.loop-i.invariant c.loop-i-test.true c.requires in search rules

pub loop-i-preserved : goal.loop-i-preserved
loop-i-preserved c =
    let from : ℕ = c.loop-i.i * c.args.k in
    let size : from + c.args.k - from ≡ c.args.k = omega arith in
    rows_put c.loop-i.invariant size c.loop-i-test.true (row_fits c.loop-i.invariant c.loop-i-test.true c.requires) c.put_row.ensures

pub returns : goal.returns
returns c = rows_all c.loop-i.invariant c.loop-i-test.false
