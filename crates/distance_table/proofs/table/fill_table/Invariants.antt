-- `distance_table::table::fill_table` meets its contract: rows are copied or searched. The loop's invariant: the rows of the first j roots are filled.
-- Assumes nothing.
use Rattle.distance_table.proofs.RowsFilled.{TableUnderway}
use Rattle.distance_table.proofs.table.fill_table.Given as goal

abbrev pub invariant-loop-j : goal.invariant-loop-j
invariant-loop-j l = TableUnderway l.n l.around.bounds.now l.around.arcs.now l.roots l.j l.initial.distances l.distances l.initial.lasts l.lasts
