-- What is printed of a reply, whole or in part, of what is known besides, and of the check's answer.
-- Assumes nothing.
use Rattle.std.specs.Prelude.{ℕ, Bool, true, false, List, [], ◌∷◌, ◌++◌}
use Rattle.rules.specs.Reply as rules
use Rattle.rules.specs.Questions.{Question, graph_in}
use Rattle.replies.specs.declared.Reply.{Reply}
use Rattle.replies.specs.Replies.{bit_of}
use Rattle.reply_text.specs.Lines.{bytes_of, spaced, ended, line}
use Rattle.reply_text.specs.Replies.{TextWritten}
use Rattle.gate_replies.specs.Fixed.{FixedWritten}

-- The reply's whole text where that is asked for; otherwise what the rules fix of it.
abbrev pub DistrictBy : Question → Reply → List ℕ → List ℕ → List ℕ → ℕ → Bool → Type 0
DistrictBy q reply buf before after r true = TextWritten (graph_in q) reply buf before after r
DistrictBy q reply buf before after r false = FixedWritten q reply buf before after r

pub record DistrictWritten (whole : Bool) (q : Question) (reply : Reply) (buf before after : List ℕ) (r : ℕ) : Type 0 where
  pub text : DistrictBy q reply buf before after r whole

-- `known` trials floor, and 1 where they are spent, 0 where not.
unfoldable pub known_text : ℕ → ℕ → Bool → List ℕ
known_text trials floor spent = bytes_of "known" ++ (spaced trials ++ (spaced floor ++ ended (bit_of spent ∷ [])))

-- `yes` heaviest, or `refused` number.
unfoldable pub verdict_text : rules.Verdict → List ℕ
verdict_text (rules.yes heaviest) = line "yes" (heaviest ∷ [])
verdict_text (rules.number k) = line "refused" (k ∷ [])
