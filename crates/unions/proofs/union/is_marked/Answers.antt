-- `unions::union::is_marked` meets its contract: past the end of the marks there is 0. Assumes nothing.
use mathlib.Core.Path.{◌≡◌, sym, ap}
use lib.ListN.{get_or, get_or-eq_default}
use lib.Dec.{eqb}
use Rattle.unions.proofs.union.is_marked.Goals as goal

pub returns-then-marks-at : goal.returns-then-marks-at
returns-then-marks-at c =
    let past : get_or c.args.marks.now c.args.at 0 ≡ 0 = get_or-eq_default c.args.marks.now 0 c.if-marks-at.true in
    sym (ap (λ x. eqb x 1) past)
