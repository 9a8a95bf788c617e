-- `question::question::answer` meets its contract: with room for any text it is written, and otherwise nothing is. Assumes nothing.
use mathlib.Core.Path.{refl}
use native.Mathlib.Omega.{arith}
use Rattle.question.proofs.question.answer.Goals as goal

pub returns-then-out-lt65536 : goal.returns-then-out-lt65536
returns-then-out-lt65536 c = record { too_small = λ h. (refl, refl); answered = λ h. absurd (omega (arith, c.if-out-lt65536.true)) }

pub returns : goal.returns
returns c = record { too_small = λ h. absurd (omega (arith, c.if-out-lt65536.false)); answered = λ h. c.answer_in.ensures.answered }
