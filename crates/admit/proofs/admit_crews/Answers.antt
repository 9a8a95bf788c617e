-- `admit::admit_crews` meets its contract: the test of the crews' number decides, then that of the list of their roots.
-- Assumes nothing.
use borrow.Author.Tests.{not-true, not-false}
use mathlib.Core.Path.{◌≡◌, ◌∙◌}
use mathlib.Core.Option.{none}
use Rattle.rules.specs.Questions.{crew_fault}
use Rattle.rules.proofs.CrewsRight.{quiet_crews}
use Rattle.admit.specs.Brought.{lent}
use Rattle.admit.specs.Crews.{kind_of}
use Rattle.admit.proofs.CrewTests.{number_refused, list_decides}
use Rattle.admit.proofs.admit_crews.Goals as goal

pub returns-then-not-crews_right : goal.returns-then-not-crews_right
returns-then-not-crews_right c = number_refused (c.crews_right.ensures.wrong (not-true c.crews_right.result c.if-not-crews_right.true-raw)) _

pub admit_vans-requires : goal.admit_vans-requires
admit_vans-requires c =
    let right : crew_fault (kind_of c.args.kind) c.args.k (lent c.args.vans) c.args.n ≡ none = c.crews_right.ensures.right (not-false c.crews_right.result c.if-not-crews_right.false-raw) in
    (quiet_crews (kind_of c.args.kind) c.args.k (lent c.args.vans) c.args.n right).1

pub returns : goal.returns
returns c =
    let right : crew_fault (kind_of c.args.kind) c.args.k (lent c.args.vans) c.args.n ≡ none = c.crews_right.ensures.right (not-false c.crews_right.result c.if-not-crews_right.false-raw) in
    c.admit_vans.ensures ∙ list_decides right
