-- What the rules fix of a reply in which they leave a choice, as text.
-- Assumes nothing.
use Rattle.std.specs.Prelude.{ℕ, Bool, false, cond, List, [], ◌∷◌, ◌++◌, take, eqb}
use Rattle.lists.specs.Put.{PutTo}
use Rattle.rules.specs.Reply as rules
use Rattle.rules.specs.Questions.{Question, graph_in, ask_check}
use Rattle.rules.specs.CoverBytes.{cover_length}
use Rattle.replies.specs.declared.Reply.{Reply}
use Rattle.replies.specs.declared.Reply.TheVariants.{Refused, Cover, Stop, Parts, Needs, NoCover}
use Rattle.reply_text.specs.Lines.{bytes_of, spaced, ended, line}
use Rattle.reply_text.specs.Replies.{TextWritten}

-- Whether a verdict is yes with this weight.
abbrev pub is_yes : rules.Verdict → ℕ → Bool
is_yes (rules.yes weight) heaviest = eqb weight heaviest
is_yes (rules.number k) heaviest = false

-- Whether the check of document 01 says yes to the bytes of a cover, with this weight.
unfoldable pub confirmed : Question → List ℕ → ℕ → Bool
confirmed q c heaviest = is_yes (ask_check q c) heaviest

-- The word for it, behind a space.
unfoldable pub yes_word : Bool → List ℕ
yes_word sure = cond sure (bytes_of " yes") (bytes_of " no")

-- `cover` limit, `yes` or `no`, t: the heaviest weight and the trees follow from free choices.
unfoldable pub sure_line : ℕ → Bool → ℕ → List ℕ
sure_line limit sure t = bytes_of "cover" ++ (spaced limit ++ (yes_word sure ++ ended (t ∷ [])))

-- The first bytes of a buffer, as many as they ask for themselves.
abbrev pub cover_in : List ℕ → List ℕ
cover_in buf = take (cover_length buf) buf

-- What is written of a reply where the rules leave a choice. A reply that is neither a cover nor parts has its whole text.
abbrev pub FixedBy : Question → List ℕ → List ℕ → List ℕ → ℕ → Reply → Type 0
FixedBy q buf before after r (Cover limit heaviest t) =
    PutTo 0 (sure_line limit (confirmed q (cover_in buf) heaviest) t) before after r
FixedBy q buf before after r (Parts T D) = PutTo 0 (line "too low parts" []) before after r
FixedBy q buf before after r (Refused f) = TextWritten (graph_in q) (Refused f) buf before after r
FixedBy q buf before after r (Stop v) = TextWritten (graph_in q) (Stop v) buf before after r
FixedBy q buf before after r (Needs C) = TextWritten (graph_in q) (Needs C) buf before after r
FixedBy q buf before after r NoCover = TextWritten (graph_in q) NoCover buf before after r

pub record FixedWritten (q : Question) (reply : Reply) (buf before after : List ℕ) (r : ℕ) : Type 0 where
  pub fixed : FixedBy q buf before after r reply
