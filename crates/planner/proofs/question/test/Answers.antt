-- `planner::question::test` meets its contract: what every question brings, the limit, the buffer, then the trials decide.
-- Assumes nothing.
use mathlib.Core.Path.{◌≡◌}
use mathlib.Core.Option.{none}
use native.Mathlib.Omega.{arith}
use borrow.Author.Tests.{not-true, not-false}
use Rattle.std.proofs.lemmas.Result.{err_from_is_err_and}
use Rattle.rules.specs.Questions.{Question, question_fault}
use Rattle.planner.specs.Promise.{limit_fault_of}
use Rattle.planner.proofs.Promised.{question_refused, limit_refused, room_refused, trials_refused, nothing_refused}
use Rattle.planner.proofs.question.test.Goals as goal

pub returns-then-not-limit_right : goal.returns-then-not-limit_right
returns-then-not-limit_right c =
    let q : Question = c.args.question.now in
    let quiet : none ≡ question_fault q = c.in_ok-admit.ensures in
    limit_refused c.args.asked q c.args.room quiet (c.limit_right.ensures.wrong (not-true c.limit_right.result c.if-not-limit_right.true-raw))

pub returns-then-room-lt-LEAST_ROOM : goal.returns-then-room-lt-LEAST_ROOM
returns-then-room-lt-LEAST_ROOM c =
    let q : Question = c.args.question.now in
    let quiet : none ≡ question_fault q = c.in_ok-admit.ensures in
    let within : limit_fault_of c.args.asked ≡ none = c.limit_right.ensures.right (not-false c.limit_right.result c.if-not-limit_right.false-raw) in
    room_refused c.args.asked q c.args.room quiet within c.if-room-lt-LEAST_ROOM.true

pub returns-then-not-trials_right : goal.returns-then-not-trials_right
returns-then-not-trials_right c =
    let q : Question = c.args.question.now in
    let quiet : none ≡ question_fault q = c.in_ok-admit.ensures in
    let within : limit_fault_of c.args.asked ≡ none = c.limit_right.ensures.right (not-false c.limit_right.result c.if-not-limit_right.false-raw) in
    trials_refused c.args.asked q c.args.room quiet within (omega (arith, c.if-room-lt-LEAST_ROOM.false)) (c.trials_right.ensures.wrong (not-true c.trials_right.result c.if-not-trials_right.true-raw))

pub returns-in_err-admit : goal.returns-in_err-admit
returns-in_err-admit c =
    let q : Question = c.args.question.now in
    let p = err_from_is_err_and c.from_residual.result c.from_residual.ensures.1 in
    rw (p.1, p.2) (question_refused c.args.asked q c.args.room c.in_err-admit.ensures)

pub returns : goal.returns
returns c =
    let q : Question = c.args.question.now in
    let quiet : none ≡ question_fault q = c.in_ok-admit.ensures in
    let within : limit_fault_of c.args.asked ≡ none = c.limit_right.ensures.right (not-false c.limit_right.result c.if-not-limit_right.false-raw) in
    nothing_refused c.args.asked q c.args.room quiet within (omega (arith, c.if-room-lt-LEAST_ROOM.false)) (c.trials_right.ensures.right (not-false c.trials_right.result c.if-not-trials_right.false-raw))
