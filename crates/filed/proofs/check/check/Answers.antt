-- `filed::check::check` meets its contract: what every question brings decides, then the cover's bytes. Assumes nothing.
use mathlib.Core.Path.{sym}
use native.Mathlib.Omega.{arith}
use Rattle.std.proofs.lemmas.Result.{err_from_is_err_and}
use Rattle.rules.proofs.Admitted.{admitted}
use Rattle.filed.proofs.CheckSteps.{question_refused, cover_decides, promised}
use Rattle.filed.proofs.check.check.Goals as goal

pub check_filed-requires : goal.check_filed-requires
check_filed-requires c = rw c.graph.ensures (admitted c.args.question.now (sym c.in_ok-admit.ensures)).valid

pub returns-in_err-admit : goal.returns-in_err-admit
returns-in_err-admit c =
    let p = err_from_is_err_and c.from_residual.result c.from_residual.ensures.1 in
    rw (p.1, p.2) (promised c.args.question.now c.args.c.now _ (λ i h. omega (arith, c.shared_slice_known-1.given i)) (question_refused c.args.question.now c.args.c.now c.in_err-admit.ensures))

pub returns : goal.returns
returns c =
    promised c.args.question.now c.args.c.now c.check_filed.result (λ i h. omega (arith, c.shared_slice_known-1.given i))
    (cover_decides c.args.question.now c.args.c.now c.in_ok-admit.ensures (rw c.graph.ensures at c.check_filed.ensures))
