-- `distance_table::table::fill_table` meets its contract: rows are copied or searched. The loop's invariant: the rows of the first j roots are filled.
-- Assumes nothing.
use Prim.Native.Nat.{ℕ, ◌+◌, ◌*◌, ◌-◌, ◌≤◌}
use mathlib.Core.Path.{◌≡◌}
use native.Mathlib.Omega.{arith}
use lib.ListN.{length}
use Rattle.distance_table.proofs.RowPlaces.{row_room, row_before}
use Rattle.distance_table.proofs.RowsPut.{row_copied}
use Rattle.distance_table.proofs.RowsFilled.{table_put, table_copied, table_all}
use Rattle.distance_table.proofs.table.fill_table.Goals as goal
use Rattle.distance_table.proofs.table.fill_table.Goals.{then-first-j, else-first-j}

pub loop-j-preserved : goal.loop-j-preserved
loop-j-preserved c =
    let j : ℕ = c.loop-j.j in
    let n : ℕ = c.args.n in
    let roots : ℕ = length c.args.roots.now in
    let first : ℕ = c.first_at-first.result in
    let in_table : j * n + n ≤ length c.loop-j.distances = row_room j roots n _ c.loop-j-test.true (omega (arith, c.requires.distances_room, c.loop-j.invariant.table_size)) in
    let in_lasts : j * n + n ≤ length c.loop-j.lasts = row_room j roots n _ c.loop-j-test.true (omega (arith, c.requires.lasts_room, c.loop-j.invariant.lasts_size)) in
    elim c.if-first-j.branch [
      | then-first-j w ↦
          let before : first * n + n ≤ j * n = row_before first j n w.if-first-j.true in
          rw (w.distances-is, w.lasts-is, w.copy_within.ensures.after, w.copy_within-then-first-j.ensures.after)
          (table_copied _ _ _ _ c.loop-j.invariant w.if-first-j.true c.loop-j-test.true c.first_at-first.ensures.same in_table in_lasts
          (row_copied c.loop-j.distances (first * n) (j * n) n before in_table) (row_copied c.loop-j.lasts (first * n) (j * n) n before in_lasts))
      | else-first-j w ↦
          let size : j * n + n - j * n ≡ n = omega arith in
          rw (w.distances-is, w.lasts-is) (table_put _ _ _ _ c.loop-j.invariant c.loop-j-test.true in_table in_lasts size w.wide.ensures.is w.distances_from.ensures)
    ]

pub returns : goal.returns
returns c = table_all _ _ _ _ c.loop-j.invariant c.loop-j-test.false c.requires.distances_room c.requires.lasts_room
