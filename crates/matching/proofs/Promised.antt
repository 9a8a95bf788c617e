-- The promise of `assign`, from what its two ways come to.
-- Assumes nothing.
use Prim.Native.Nat.{ℕ}
use mathlib.Core.Path.{◌≡◌, refl}
use mathlib.Core.Logic.{◌⊎◌, inl, inr}
use mathlib.Core.Bool.{true, false}
use mathlib.Core.List.{List}
use native.Mathlib.Omega.{arith}
use lib.ListN.{length}
use Rattle.lists.specs.Count.{below}
use Rattle.lists.proofs.Member.{either}
use Rattle.lists.proofs.OnlyFirst.{only_first_none}
use Rattle.matching.specs.declared.Answer.{Answer}
use Rattle.matching.specs.declared.Answer.TheVariants.{Refused, Assigned, Deficient}
use Rattle.matching.proofs.AssignmentLaws.{deficient_none}
use Rattle.matching.specs.Assignable.{assignable}
use Rattle.matching.proofs.AssignableLaws.{assignable_some, some_assignable}
use Rattle.matching.specs.Input.{allowed_at, refused_of}
use Rattle.matching.specs.Promise.{case_of, answer_of, Assigns}
use Rattle.matching.specs.State.{Solved}

-- Two cases of the answer are not equal: of that `cc` makes this equation.
pub differ : ◌≡◌ {A = ℕ} 0 1 → ⊥
differ e = omega arith

-- An input that is refused leaves the buffer as it came.
pub promised_refused : (p y : ℕ) (bytes before : List ℕ) → refused_of p y bytes (length before) ≡ true → Assigns p y bytes before Refused before
unfolding answer_of
promised_refused p y bytes before e = record { reply = rw e; means = says; rest = only_first_none p before }
  where
    says : (case : Answer) → Refused ≡ case → (case_of p y bytes before before case).says
    says Refused q = record { invalid = e; unchanged = refl }
    says Assigned q = absurd (differ (cc))
    says Deficient q = absurd (differ (cc))

module _ (p y : ℕ) (bytes before after : List ℕ) (accepted : refused_of p y bytes (length before) ≡ false) where
  -- Whichever the buffer holds, the test for an assignment agrees.
  replied : (answer : Answer) → Solved p y bytes before answer after → answer ≡ answer_of p y bytes (length before)
  unfolding answer_of
  replied Refused s = absurd (s.answered refl)
  replied Assigned s = rw (accepted, some_assignable (allowed_at bytes y) (s.assigned refl))
  replied Deficient s = go (either (assignable (allowed_at bytes y) (below p) (below y)))
    where
      go : (assignable (allowed_at bytes y) (below p) (below y) ≡ true) ⊎ (assignable (allowed_at bytes y) (below p) (below y) ≡ false) → Deficient ≡ answer_of p y bytes (length before)
      go (inl e) = absurd (deficient_none (s.set refl) (assignable_some (allowed_at bytes y) p y e).1)
      go (inr e) = rw (accepted, e)

  said : (answer : Answer) → Solved p y bytes before answer after → (case : Answer) → answer ≡ case → (case_of p y bytes before after case).says
  said answer s Refused q = absurd (s.answered q)
  said answer s Assigned q = record { valid = accepted; assignment = s.assigned q }
  said answer s Deficient q = record { valid = accepted; set = s.set q; none = λ roots. deficient_none (s.set q) }

  pub promised_solved : (answer : Answer) → Solved p y bytes before answer after → Assigns p y bytes before answer after
  promised_solved answer s = record { reply = replied answer s; means = said answer s; rest = s.rest }
