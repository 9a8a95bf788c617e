-- Values stored from the first on stand in front of those that stay, and the cases without a value change none.
-- Assumes nothing.
use Prim.{tt}
use Prim.Native.Nat.{ℕ, zero, suc, ◌≤◌}
use mathlib.Core.Path.{◌≡◌, refl, ◌∙◌}
use mathlib.Core.Bool.{Bool, true, false}
use mathlib.Core.List.{List, [], ◌∷◌, ◌++◌, append-nil}
use native.Mathlib.Omega.{arith}
use lib.ListN.{length, set, drop}
use types.Run.{OneOf, miss}
use denote.Enum.Declared.{tag_of}
use Rattle.std.specs.Borrow.{Bor}
use Rattle.std.specs.Bool.{then_some}
use Rattle.rules.specs.Reply as rules
use Rattle.admit.specs.declared.crews.Kind.TheVariants.{Unrooted}
use Rattle.admit.specs.Brought.{lent}
use Rattle.asking.specs.declared.ask.Asked.TheVariants.{Within}
use Rattle.rules.specs.Questions.{Question, most_trials}
use Rattle.filed.specs.Promise.{number_or0}
use Rattle.replies.specs.contracts.Reply as reply
use Rattle.replies.specs.declared.Reply.{Reply}
use Rattle.replies.specs.declared.Reply.TheVariants as replies
use Rattle.replies.specs.declared.Told.{Told}
use Rattle.replies.specs.Replies.{said, says, bit_of}
use Rattle.planner.specs.Promise.{AskPromise}
use Rattle.planner.proofs.Promised.{best_promised}
use Rattle.planner_c.specs.Numbers.{kind_of, asked_of, brought, besides, says_told, said_of, Puts}
use Rattle.planner_c.specs.Promise.{AskExported}

-- A number that is not 0 names the unrooted kind.
pub unrooted : (kind : ℕ) → (kind ≡ 0 → ⊥) → Unrooted ≡ kind_of kind
unrooted zero other = absurd (other refl)
unrooted (suc kind) other = refl

-- A list that the code lends where a bit says so is the list that is brought.
pub lent_brought : (given : Bool) (list : Bor (List ℕ)) → lent (then_some given list) ≡ brought given list.now
lent_brought true list = refl
lent_brought false list = refl

-- And one that is not 0 asks for the best limit.
pub best_asked : (asked limit : ℕ) → (asked ≡ 0 → ⊥) → Within most_trials ≡ asked_of asked limit
best_asked zero limit other = absurd (other refl)
best_asked (suc asked) limit other = refl

-- What the planner promises of what two numbers ask.
pub asked_exported : (asked limit : ℕ) (q : Question) (before after : List ℕ) (t : Told) {values values_after : List ℕ} {r : ℕ} → AskPromise (asked_of asked limit) q before after t
    → r ≡ (says t.reply).number → Puts (says t.reply) values values_after → AskExported asked limit q values values_after before after r
asked_exported zero limit q before after t p number puts = record { reply = t.reply; promise = p.promise; number = number; puts = puts }
asked_exported (suc asked) limit q before after t p number puts = record { reply = t.reply; promise = best_promised p; number = number; puts = puts }

-- The number of a verdict is that of its case.
pub verdict_number : (v : rules.Verdict) → number_or0 v ≡ (said_of v).number
verdict_number (rules.yes heaviest) = refl
verdict_number (rules.number number) = refl

-- One value, two and three, stored in a list that has room for them.
pub puts_one : {number x : ℕ} (before : List ℕ) → 1 ≤ length before → Puts (said number (x ∷ [])) before (set before 0 x)
puts_one [] long = absurd (omega (arith, long))
puts_one (a ∷ rest) long = record { values = refl }

pub puts_two : {number x y : ℕ} (before : List ℕ) → 2 ≤ length before → Puts (said number (x ∷ y ∷ [])) before (set (set before 0 x) 1 y)
puts_two [] long = absurd (omega (arith, long))
puts_two (a ∷ []) long = absurd (omega (arith, long))
puts_two (a ∷ b ∷ rest) long = record { values = refl }

pub puts_three : {number x y z : ℕ} (before : List ℕ) → 3 ≤ length before
    → Puts (said number (x ∷ y ∷ z ∷ [])) before (set (set (set before 0 x) 1 y) 2 z)
puts_three [] long = absurd (omega (arith, long))
puts_three (a ∷ []) long = absurd (omega (arith, long))
puts_three (a ∷ b ∷ []) long = absurd (omega (arith, long))
puts_three (a ∷ b ∷ c ∷ rest) long = record { values = refl }

-- A reply of a case without values: none of those with some (1 to 4).
abbrev without_values : List ℕ
without_values = 0 ∷ 5 ∷ []

pub puts_no_value : (r : Reply) (before : List ℕ) → OneOf without_values (tag_of reply.the_type r) → Puts (says r) before before
puts_no_value (replies.Refused f) before case = record { values = refl }
puts_no_value (replies.Cover limit heaviest t) before case = absurd (miss without_values 1 tt case)
puts_no_value (replies.Stop v) before case = absurd (miss without_values 2 tt case)
puts_no_value (replies.Parts T D) before case = absurd (miss without_values 3 tt case)
puts_no_value (replies.Needs C) before case = absurd (miss without_values 4 tt case)
puts_no_value replies.NoCover before case = record { values = refl }

-- Three values stored, and then three in front of them.
six_put : {x y z u v w : ℕ} (before : List ℕ) → 6 ≤ length before
    → (x ∷ y ∷ z ∷ []) ++ drop 3 (set (set (set before 3 u) 4 v) 5 w) ≡ (x ∷ y ∷ z ∷ u ∷ v ∷ w ∷ []) ++ drop 6 before
six_put [] long = absurd (omega (arith, long))
six_put (a ∷ []) long = absurd (omega (arith, long))
six_put (a ∷ b ∷ []) long = absurd (omega (arith, long))
six_put (a ∷ b ∷ c ∷ []) long = absurd (omega (arith, long))
six_put (a ∷ b ∷ c ∷ d ∷ []) long = absurd (omega (arith, long))
six_put (a ∷ b ∷ c ∷ d ∷ e ∷ []) long = absurd (omega (arith, long))
six_put (a ∷ b ∷ c ∷ d ∷ e ∷ f ∷ rest) long = refl

module _ (t : Told) {before after : List ℕ} where
  -- What is known behind a cover's values,
  pub puts_besides : {limit heaviest count spent : ℕ} → t.reply ≡ replies.Cover limit heaviest count → 6 ≤ length before → spent ≡ bit_of t.known.spent
      → Puts (says t.reply) (set (set (set before 3 t.known.trials) 4 t.known.floor) 5 spent) after → Puts (says_told t) before after
  puts_besides {limit} {heaviest} {count} q long bit p =
      let is : t.reply ≡ replies.Cover limit heaviest count = q in
      record { values = rw is ((rw (is, bit) at p).values ∙ six_put before long) }

  -- and nothing behind those of another reply.
  pub puts_no_more : ((limit heaviest count : ℕ) → t.reply ≡ replies.Cover limit heaviest count → ⊥) → Puts (says t.reply) before after → Puts (says_told t) before after
  puts_no_more other p = let none = nothing t.reply refl in record { values = rw (none, append-nil (says t.reply).values) p.values }
    where
      nothing : (r : Reply) → t.reply ≡ r → besides r t.known ≡ []
      nothing (replies.Refused f) e = refl
      nothing (replies.Cover limit heaviest count) e = absurd (other limit heaviest count e)
      nothing (replies.Stop v) e = refl
      nothing (replies.Parts T D) e = refl
      nothing (replies.Needs C) e = refl
      nothing replies.NoCover e = refl
