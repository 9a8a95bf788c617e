-- `admit::admit` meets its contract: the graph's bytes, then the class list, then the crews and their list decide.
-- Assumes nothing.
use mathlib.Core.Path.{sym}
use Rattle.std.proofs.lemmas.Result.{err_from_is_err_and}
use Rattle.graph_check.proofs.Exactly.{yes_graph}
use Rattle.admit.proofs.Tested.{sheet_refused, lists_refused, crews_decide}
use Rattle.admit.proofs.admit.Goals as goal

pub returns-in_err-n : goal.returns-in_err-n
returns-in_err-n c =
    let p = err_from_is_err_and c.from_residual.result c.from_residual.ensures.1 in
    rw (p.1, p.2) (sheet_refused c.args.question.now (sym (rw c.sheet-sheet.ensures at c.in_err-n.ensures)))

pub admit_classes-requires : goal.admit_classes-requires
admit_classes-requires c = (yes_graph c.sheet-sheet.result.now (sym c.in_ok-n.ensures)).graph.valid

pub returns-in_err-admit_classes : goal.returns-in_err-admit_classes
returns-in_err-admit_classes c =
    let p = err_from_is_err_and c.from_residual-in_err-admit_classes.result c.from_residual-in_err-admit_classes.ensures.1 in
    rw (p.1, p.2) (lists_refused c.args.question.now (sym (rw c.sheet-sheet.ensures at c.in_ok-n.ensures)) (rw (c.sheet-sheet.ensures, c.classes.ensures) at c.in_err-admit_classes.ensures))

pub returns : goal.returns
returns c =
    crews_decide
    c.args.question.now
    (sym (rw c.sheet-sheet.ensures at c.in_ok-n.ensures))
    (rw (c.sheet-sheet.ensures, c.classes.ensures) at c.in_ok-admit_classes.ensures)
    (rw (c.kind.ensures, c.k.ensures, c.vans.ensures) at c.admit_crews.ensures)
