-- What the exported functions promise on every input, refused ones too: the number returned and the values written are those of a reply,
-- of which all that the planner promises holds, for the lent bytes as they are before and after.
-- Assumes nothing.
use Rattle.std.specs.Prelude.{ℕ, zero, suc, ◌≡◌, List, Result}
use Rattle.rules.specs.Questions.{Question}
use Rattle.admit.specs.declared.refusal.Refusal.{Refusal}
use Rattle.filed.specs.Promise.{CheckPromise}
use Rattle.replies.specs.declared.Reply.{Reply}
use Rattle.replies.specs.declared.Told.{Told}
use Rattle.replies.specs.Replies.{says}
use Rattle.closed_walk.specs.declared.walk.Walked.{Walked}
use Rattle.closed_walk.specs.Promise as walks
use Rattle.planner.specs.Promise.{TrialPromise, BestPromise, WithinPromise}
use Rattle.planner_c.specs.Numbers.{says_told, saying_of, Puts}

-- A trial at a limit.
pub record TrialExported (q : Question) (limit : ℕ) (values values_after before after : List ℕ) (r : ℕ) : Type 0 where
  pub reply : Reply
  pub promise : TrialPromise q limit before after reply
  pub number : r ≡ (says reply).number
  pub puts : Puts (says reply) values values_after

-- The best limit.
pub record BestExported (q : Question) (values values_after before after : List ℕ) (r : ℕ) : Type 0 where
  pub reply : Reply
  pub promise : BestPromise q before after reply
  pub number : r ≡ (says reply).number
  pub puts : Puts (says reply) values values_after

-- Either, by what two numbers ask.
abbrev pub AskExported : ℕ → ℕ → Question → List ℕ → List ℕ → List ℕ → List ℕ → ℕ → Type 0
AskExported zero limit q = TrialExported q limit
AskExported (suc other) limit q = BestExported q

-- The best limit's question with a number of trials.
pub record WithinExported (q : Question) (p : ℕ) (values values_after before after : List ℕ) (r : ℕ) : Type 0 where
  pub told : Told
  pub promise : WithinPromise q p before after told
  pub number : r ≡ (says_told told).number
  pub puts : Puts (says_told told) values values_after

-- The check of a filed cover.
pub record CheckExported (q : Question) (c values values_after : List ℕ) (r : ℕ) : Type 0 where
  pub verdict : Result ℕ Refusal
  pub promise : CheckPromise q c verdict
  pub number : r ≡ (saying_of verdict).number
  pub puts : Puts (saying_of verdict) values values_after

-- The walk along a tree of a filed cover.
pub record WalkExported (q : Question) (c : List ℕ) (tree : ℕ) (values values_after before after : List ℕ) (r : ℕ) : Type 0 where
  pub walked : Result Walked Refusal
  pub promise : walks.WalkPromise q c tree before after walked
  pub number : r ≡ (walks.says walked).number
  pub puts : Puts (walks.says walked) values values_after
