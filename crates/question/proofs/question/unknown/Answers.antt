-- `question::question::unknown` meets its contract: each test of 41 in turn.
-- Assumes nothing.
use Rattle.std.proofs.Common.{arith}
use Rattle.std.proofs.lemmas.Bool.Decides.{nat_tests}
use Rattle.rules.specs.Questions.{unknown}
use Rattle.question.proofs.question.unknown.Goals as goal

pub returns-then-input-lt8 : goal.returns-then-input-lt8
unfolding unknown
returns-then-input-lt8 c = grind (arith, nat_tests)

pub returns-then-asked-lt1 : goal.returns-then-asked-lt1
unfolding unknown
returns-then-asked-lt1 c = grind (arith, nat_tests)

pub returns-else-asked-lt1 : goal.returns-else-asked-lt1
unfolding unknown
returns-else-asked-lt1 c = grind (arith, nat_tests)
