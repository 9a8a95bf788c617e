-- The planner's answers to a known question are the rules', and can be printed.
-- Assumes nothing.
use Prim.Native.Nat.{ℕ}
use mathlib.Core.Path.{◌≡◌, refl}
use mathlib.Core.Bool.{true, false, true≢false, false≢true}
use mathlib.Core.List.{List}
use mathlib.Core.Option.{some, none}
use lib.ListN.{length}
use borrow.Author.Tests.{ne_eqb}
use Rattle.graph.specs.Fault.{Fault, refused_or}
use Rattle.rules.specs.Reply as rules
use Rattle.rules.specs.Search.{trial, best}
use Rattle.rules.specs.Questions.{roving, Question, graph_in, crews_in, trial_fault, ask_trial, best_fault, ask_best, kind_in, is_trial, ask_known}
use Rattle.replies.specs.declared.Reply.{Reply}
use Rattle.planner.specs.Promise.{TrialPromise, BestPromise}
use Rattle.reply_text.proofs.PrintableReplies.{ask_trial_printable, ask_best_printable}
use Rattle.question.specs.Question.{Unrefused, limit_asked, KnownAnswered}

-- What is not refused has no fault.
quiet : (f : Fault) (answer : rules.Reply) → Unrefused (refused_or rules.refused f answer) → f ≡ none
unfolding refused_or
quiet (some k) answer u = absurd (u k refl)
quiet none answer u = refl

-- What has no fault is not refused.
loud : (f : Fault) (answer : rules.Reply) → f ≡ none → refused_or rules.refused f answer ≡ answer
unfolding refused_or
loud f answer q = let same : f ≡ none = q in rw same refl

module _ {q : Question} {limit : ℕ} {before after : List ℕ} {r : Reply} where
  -- A trial's answer is the question's.
  pub trial_answered : TrialPromise q limit before after r → KnownAnswered true q limit before after r
  unfolding ask_known ask_trial limit_asked
  trial_answered t =
      let fault = trial_fault q limit (length before) in
      let answer = trial (graph_in q) (crews_in q) limit t.choices in
      record {
        choices = t.choices;
        good = λ u. t.good (quiet fault answer u);
        means = λ u. record { of_trial = λ e. rw (loud fault answer (quiet fault answer u)) (t.means (quiet fault answer u)); of_best = λ e. absurd (true≢false e) };
        replied = t.rule;
        printable = ask_trial_printable q (length before) t.choices limit t.means;
      }

  -- So is that of the best limit.
  pub best_answered : BestPromise q before after r → KnownAnswered false q limit before after r
  unfolding ask_known ask_best limit_asked
  best_answered t =
      let fault = best_fault q (length before) in
      let answer = best (graph_in q) (crews_in q) t.choices in
      record {
        choices = t.choices;
        good = λ u. t.good (quiet fault answer u);
        means = λ u. record { of_trial = λ e. absurd (false≢true e); of_best = λ e. rw (loud fault answer (quiet fault answer u)) (t.means (quiet fault answer u)) };
        replied = t.rule;
        printable = ask_best_printable q (length before) t.choices t.means;
      }

-- A question that is none of the first three is the last: roving, and no trial.
module _ (asked : ℕ) (x : asked ≡ 1 → ⊥) (y : asked ≡ 2 → ⊥) (z : asked ≡ 3 → ⊥) where
  pub last_kind : kind_in asked ≡ roving
  unfolding kind_in
  last_kind = rw (ne_eqb asked 1 x, ne_eqb asked 3 z)

  pub last_best : is_trial asked ≡ false
  unfolding is_trial
  last_best = rw (ne_eqb asked 1 x, ne_eqb asked 2 y)
