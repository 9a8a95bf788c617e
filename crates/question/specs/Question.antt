-- The program's question (document 01, "The program `rounds`"): what is promised of the text of its reply.
-- Assumes nothing.
use Rattle.std.specs.Prelude.{ℕ, ◌≤◌, ◌<◌, ◌≡◌, Bool, true, false, cond, List, length}
use Rattle.lists.specs.Put.{PutTo}
use Rattle.lists.specs.Scratch.{Scratch}
use Rattle.rules.specs.RootedTrial.{Choices}
use Rattle.rules.specs.Reply as rules
use Rattle.rules.specs.Search.{best_limit}
use Rattle.rules.specs.Questions.{Question, graph_in, crews_in, least_room, asked_in, limit_in, is_trial, question_in, ask_known, ask_rounds}
use Rattle.rules.specs.Fit.{GoodFor}
use Rattle.planner_laws.specs.Meaning.{TrialMeans, BestMeans}
use Rattle.replies.specs.declared.Reply.{Reply}
use Rattle.replies.specs.Replies.{Replied}
use Rattle.reply_text.specs.Replies.{Printable}
use Rattle.reply_text.specs.Text.{text_of}

-- The limit at which the answer is found: B in a trial, or the best.
unfoldable pub limit_asked : Bool → Question → ℕ → ℕ
limit_asked trial q limit = cond trial limit (best_limit (graph_in q) (crews_in q))

-- Nothing is refused.
abbrev pub Unrefused : rules.Reply → Type 0
Unrefused reply = (number : ℕ) → reply ≡ rules.refused number → ⊥

-- What the reply to a known question means: that of a trial, or of the best limit.
pub record MeansAsked (trial : Bool) (q : Question) (limit : ℕ) (reply : rules.Reply) : Type 0 where
  pub of_trial : trial ≡ true → TrialMeans (graph_in q) (crews_in q) limit reply
  pub of_best : trial ≡ false → BestMeans (graph_in q) (crews_in q) reply

-- The reply to a known question, by choices of which holds what document 01 says wherever nothing is refused.
pub record KnownAnswered (trial : Bool) (q : Question) (limit : ℕ) (before after : List ℕ) (r : Reply) : Type 0 where
  pub choices : Choices
  pub good : Unrefused (ask_known trial q limit (length before) choices) → GoodFor (graph_in q) (crews_in q) (limit_asked trial q limit) choices
  pub means : Unrefused (ask_known trial q limit (length before) choices) → MeansAsked trial q limit (ask_known trial q limit (length before) choices)
  pub replied : Replied (ask_known trial q limit (length before) choices) before after r
  pub printable : Printable (graph_in q) (ask_known trial q limit (length before) choices)

-- The text of the rules' reply to the program's question, by such choices; and the reply means what it says.
pub record TextAnswered (input before after : List ℕ) (r : ℕ) : Type 0 where
  pub choices : Choices
  pub good : Unrefused (ask_rounds input choices)
      → GoodFor (graph_in (question_in input)) (crews_in (question_in input)) (limit_asked (is_trial (asked_in input)) (question_in input) (limit_in input)) choices
  pub means : Unrefused (ask_rounds input choices) → MeansAsked (is_trial (asked_in input)) (question_in input) (limit_in input) (ask_rounds input choices)
  pub text : PutTo 0 (text_of (graph_in (question_in input)) (ask_rounds input choices)) before after r

-- What the answer asks: a buffer as long as the rules say, and room for any text.
pub record TextRoom (buf room : ℕ) : Type 0 where
  pub buffer : buf ≡ least_room
  pub enough : 65536 ≤ room

-- The same, where the buffer for the cover is lent, as scratch.
pub record TextAnsweredIn (input buf buf_after before after : List ℕ) (r : ℕ) : Type 0 where
  pub answered : TextAnswered input before after r
  pub buf_scratch : Scratch buf buf_after

-- What the program's function promises on every input: the text, or nothing where there is too little room for any.
pub record AnswerPromise (input before after : List ℕ) (r : ℕ) : Type 0 where
  pub too_small : length before < 65536 → (r ≡ 0) × (after ≡ before)
  pub answered : 65536 ≤ length before → TextAnswered input before after r
