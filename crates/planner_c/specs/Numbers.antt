-- What crosses to C as numbers: the kind of a question, what it asks and which lists it brings, and the number and values that a verdict says, and a reply
-- with what is known besides.
-- (What a reply says: `says` of the crate `replies`.)
-- Assumes nothing.
use Rattle.std.specs.Prelude.{ℕ, zero, suc, Bool, true, false, ◌/◌, ◌%◌, ◌≡◌, cond, List, [], ◌∷◌, ◌++◌, length, drop, eqb, Result}
use Rattle.std.proofs.Math.Option.{Option, some, none}
use Rattle.rules.specs.Reply as rules
use Rattle.rules.specs.Questions.{Question, most_trials}
use Rattle.admit.specs.declared.crews.Kind.{Kind}
use Rattle.admit.specs.declared.crews.Kind.TheVariants.{Rooted, Unrooted}
use Rattle.admit.specs.declared.refusal.Refusal.{Refusal}
use Rattle.admit.specs.Crews.{asks, with_lists}
use Rattle.asking.specs.declared.ask.Asked.{Asked}
use Rattle.asking.specs.declared.ask.Asked.TheVariants.{At, Within}
use Rattle.filed.specs.Promise as check
use Rattle.replies.specs.declared.Reply.{Reply}
use Rattle.replies.specs.declared.Reply.TheVariants.{Refused, Cover, Stop, Parts, Needs, NoCover}
use Rattle.replies.specs.declared.Known.{Known}
use Rattle.replies.specs.declared.Told.{Told}
use Rattle.replies.specs.Replies.{Said, said, says, bit_of}

-- 0 is rooted ("yard"), every other number unrooted ("roving").
abbrev pub kind_of : ℕ → Kind
kind_of zero = Rooted
kind_of (suc other) = Unrooted

-- 0 is a trial at the limit, every other number the best limit, which is the search with as many trials as may be asked for.
abbrev pub asked_of : ℕ → ℕ → Asked
asked_of zero limit = At limit
asked_of (suc other) limit = Within most_trials

-- Which lists a number names: the lowest bit says whether class bytes are brought, the next whether a list of vans is.
pub record Lists : Type 0 where
  pub classes : Bool
  pub vans : Bool

abbrev pub lists_of : ℕ → Lists
lists_of brought = record { classes = eqb (brought % 2) 1; vans = eqb (brought / 2 % 2) 1 }

-- A list where a bit says that it is brought: one of no bytes is a list, and one that is not brought is not read.
abbrev pub brought : Bool → List ℕ → Option (List ℕ)
brought true list = some list
brought false list = none

-- The question with those lists that are brought.
abbrev pub asks_with : Kind → ℕ → List ℕ → Lists → List ℕ → List ℕ → Question
asks_with kind k b lists classes vans = with_lists (asks kind k b) (brought lists.classes classes) (brought lists.vans vans)

-- What the question with a number of trials says: what its reply does, but 5 where the trials are spent; and behind a cover's values the trials made, the
-- floor, and 1 where they are spent, 0 where not.
abbrev pub besides : Reply → Known → List ℕ
besides (Refused f) k = []
besides (Cover limit heaviest t) k = k.trials ∷ k.floor ∷ bit_of k.spent ∷ []
besides (Stop v) k = []
besides (Parts T D) k = []
besides (Needs C) k = []
besides NoCover k = []

abbrev pub says_told : Told → Said
says_told t = said (cond t.known.spent 5 (says t.reply).number) ((says t.reply).values ++ besides t.reply t.known)

-- The rules' verdict: yes is 0 with the heaviest weight, a refusal its own number.
abbrev pub said_of : rules.Verdict → Said
said_of (rules.yes heaviest) = said 0 (heaviest ∷ [])
said_of (rules.number number) = said number []

-- The program's verdict.
abbrev pub saying_of : Result ℕ Refusal → Said
saying_of verdict = said_of (check.says verdict)

-- The case's values, from the first on; those behind stay as they came.
pub record Puts (s : Said) (before after : List ℕ) : Type 0 where
  pub values : after ≡ s.values ++ drop (length s.values) before
