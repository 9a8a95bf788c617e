-- `question::question::reply_to` meets its contract: each question is the planner's.
-- Assumes nothing.
use mathlib.Core.Path.{◌≡◌}
use native.Mathlib.Omega.{arith}
use Rattle.rules.specs.Questions.{kind_in, is_trial}
use Rattle.question.proofs.KnownAnswers.{trial_answered, best_answered, last_kind, last_best}
use Rattle.question.proofs.question.reply_to.Goals as goal

pub returns-in-1 : goal.returns-in-1
unfolding is_trial kind_in
returns-in-1 c = let is : c.args.asked ≡ 1 = omega (arith, c.in-1.is) in rw is (trial_answered c.trial.ensures)

pub returns-in-2 : goal.returns-in-2
unfolding is_trial kind_in
returns-in-2 c = let is : c.args.asked ≡ 2 = omega (arith, c.in-2.is) in rw is (trial_answered c.trial-in-2.ensures)

pub returns-in-3 : goal.returns-in-3
unfolding is_trial kind_in
returns-in-3 c = let is : c.args.asked ≡ 3 = omega (arith, c.in-3.is) in rw is (best_answered c.best.ensures)

pub returns-in_default : goal.returns-in_default
returns-in_default c =
    let not_1 : c.args.asked ≡ 1 → ⊥ = λ q. omega arith in
    let not_2 : c.args.asked ≡ 2 → ⊥ = λ q. omega arith in
    let not_3 : c.args.asked ≡ 3 → ⊥ = λ q. omega arith in
    rw (last_kind c.args.asked not_1 not_2 not_3, last_best c.args.asked not_1 not_2 not_3) (best_answered c.best-in_default.ensures)
