-- `matching_assign` meets its contract: each arm's number is that of the case.
-- Assumes nothing.
use Prim.Native.Nat.{ℕ}
use mathlib.Core.Path.{◌≡◌, ◌∙◌, ap, sym, subst}
use mathlib.Core.List.{List}
use Rattle.matching.specs.declared.Answer.{Answer}
use Rattle.matching.specs.declared.Answer.TheVariants.{Refused, Assigned, Deficient}
use Rattle.matching.specs.Promise.{case_of, Assigns}
use Rattle.matching_c.specs.Promise.{Numbered}
use Rattle.matching_c.proofs.matching_assign.Goals as goal

-- The answer's own number, in place of the one that the rules give.
numbered : {p y : ℕ} {bytes before after : List ℕ} {answer : Answer} (case : Answer) → Assigns p y bytes before answer after → answer ≡ case
    → Numbered p y bytes before (case_of p y bytes before after case).number after
numbered {p} {y} {bytes} {before} {after} case a q =
    record {
      number = ap (λ x. (case_of p y bytes before after x).number) (sym q ∙ a.reply);
      promise = subst (λ x. Assigns p y bytes before x after) a.reply a;
    }

pub returns-in-Refused : goal.returns-in-Refused
returns-in-Refused c = numbered Refused c.assign-answer.ensures c.in-Refused.is

pub returns-in-Assigned : goal.returns-in-Assigned
returns-in-Assigned c = numbered Assigned c.assign-answer.ensures c.in-Assigned.is

pub returns-in-Deficient : goal.returns-in-Deficient
returns-in-Deficient c = numbered Deficient c.assign-answer.ensures c.in-Deficient.is
