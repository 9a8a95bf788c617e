-- Known and unknown questions.
-- Assumes nothing.
use Prim.Native.Nat.{ℕ, ◌-◌, ◌≤◌}
use mathlib.Core.Path.{◌≡◌, sym, ◌∙◌}
use mathlib.Core.Bool.{true, false}
use mathlib.Core.List.{List, []}
use native.Mathlib.Omega.{arith}
use lib.ListN.{length, take, drop, length-drop}
use lib.Seq.{take_all}
use lib.Dec.{ltb}
use borrow.Author.Tests.{ltb-false}
use Rattle.lists.proofs.Every.{first_false}
use Rattle.graph.specs.Bytes.{graph_of}
use Rattle.rules.specs.RootedTrial.{Choices}
use Rattle.rules.specs.Reply as rules
use Rattle.rules.specs.Questions.{least_room, question, asked_in, crew_count_in, limit_in, sheet_in, unknown, kind_in, is_trial, question_in, ask_known, ask_rounds}
use Rattle.replies.specs.declared.Reply.{Reply}
use Rattle.reply_text.specs.Replies.{TextWritten, RefusalWritten}
use Rattle.question.specs.Question.{KnownAnswered, TextAnswered}

module _ (input : List ℕ) where
  -- What is known is long enough for a head.
  pub known_long : unknown input ≡ false → 8 ≤ length input
  unfolding unknown
  known_long q = ltb-false (length input) 8 (first_false (ltb (length input) 8) _ q)

-- The rules' reply to an unknown question, and to a known one.
module _ (input : List ℕ) (c : Choices) where
  unknown_reply : true ≡ unknown input → ask_rounds input c ≡ rules.refused 41
  unfolding ask_rounds
  unknown_reply q = rw (sym q)

  known_reply : unknown input ≡ false → ask_rounds input c ≡ ask_known (is_trial (asked_in input)) (question_in input) (limit_in input) least_room c
  unfolding ask_rounds
  known_reply q = rw q

-- No choice is made.
abbrev nothing : Choices
nothing = record { assignment = []; paths = []; marks = [] }

-- The text of an unknown question's reply.
pub unknown_answered : {input before after : List ℕ} {r : ℕ} → unknown input ≡ true → RefusalWritten 41 before after r → TextAnswered input before after r
unknown_answered {input} q w =
    let refused = unknown_reply input nothing (sym q) in
    record { choices = nothing; good = λ u. absurd (u 41 refused); means = λ u. absurd (u 41 refused); text = rw refused (w.text (graph_of (sheet_in input) [])) }

-- The bytes behind the head.
pub sheet_is : (input : List ℕ) → take (length input - 8) (drop 8 input) ≡ sheet_in input
sheet_is input = take_all (length input - 8) (drop 8 input) (omega (arith, length-drop 8 input))

-- The text of a known question's reply, by the values that were read.
pub known_answered : {input b buf after_buf before after : List ℕ} {asked k limit r : ℕ} {reply : Reply} → unknown input ≡ false → length buf ≡ least_room
    → asked ≡ asked_in input → k ≡ crew_count_in input → limit ≡ limit_in input → b ≡ sheet_in input
    → KnownAnswered (is_trial asked) (question (kind_in asked) k b) limit buf after_buf reply → TextWritten (graph_of b []) reply after_buf before after r
    → TextAnswered input before after r
known_answered {input} {b} {buf} {asked = asked} {k = k} {limit = limit} q full a c l is s w =
    let same : ask_rounds input s.choices ≡ ask_known (is_trial asked) (question (kind_in asked) k b) limit (length buf) s.choices
    = known_reply input s.choices q ∙ sym (rw (a, c, l, is, full)) in
    record {
      choices = s.choices;
      good = λ u. rw (a, c, l, is) at (s.good (λ n e. u n (same ∙ e)));
      means = λ u. rw (known_reply input s.choices q) (rw (a, c, l, is, full) at (s.means (λ n e. u n (same ∙ e))));
      text = rw (same, sym is) (w.text _ buf s.replied s.printable);
    }
