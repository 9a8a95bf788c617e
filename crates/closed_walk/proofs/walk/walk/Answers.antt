-- `closed_walk::walk::walk` meets its contract: the check decides, then what is left of the question. Assumes nothing.
use Rattle.std.proofs.lemmas.Result.{err_from_is_err_and}
use Rattle.closed_walk.proofs.Promised.{checked_given, check_refuses, check_passes}
use Rattle.closed_walk.proofs.walk.walk.Goals as goal

pub returns-in_err-check : goal.returns-in_err-check
returns-in_err-check c =
    let p = err_from_is_err_and c.from_residual.result c.from_residual.ensures.1 in
    rw (p.1, p.2) (check_refuses _ _ _ _ c.in_err-check.ensures)

pub walk_checked-requires : goal.walk_checked-requires
walk_checked-requires c = rw c.graph.ensures (checked_given _ _ c.in_ok-check.ensures)

pub returns : goal.returns
returns c = check_passes _ _ _ c.in_ok-check.ensures (rw c.graph.ensures at c.walk_checked.ensures)
