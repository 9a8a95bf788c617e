-- What is written of a reply, whole or in part, and of the check's answer; and that it fits.
-- Assumes nothing.
use Prim.Native.Nat.{ℕ, ◌≤◌}
use mathlib.Core.Path.{◌≡◌, sym, subst}
use mathlib.Core.Bool.{Bool, true, false}
use mathlib.Core.List.{List, [], ◌∷◌}
use lib.ListN.{length}
use Rattle.std.proofs.Common.{Result, Ok, Err}
use Rattle.lists.specs.Put.{PutTo}
use Rattle.graph.specs.Bytes.{graph_of}
use Rattle.rules.specs.Questions.{Question, graph_in}
use Rattle.admit.specs.declared.refusal.Refusal.{Refusal}
use Rattle.admit.specs.Refusals.{number_of}
use Rattle.filed.specs.Promise.{says}
use Rattle.replies.specs.declared.Reply.{Reply}
use Rattle.reply_text.specs.Lines.{line}
use Rattle.reply_text.specs.Text.{text_of}
use Rattle.reply_text.specs.Replies.{TextAsked, TextWritten, RefusalWritten}
use Rattle.gate_replies.specs.Fixed.{FixedWritten}
use Rattle.gate_replies.proofs.FixedReplies.{text_fits, fixed_fits}
use Rattle.districts.specs.Text.{DistrictBy, DistrictWritten, verdict_text}

module _ {whole : Bool} {asked : Question} {reply : Reply} {buf before after : List ℕ} {r : ℕ} where
  pub whole_written : whole ≡ true → TextWritten (graph_in asked) reply buf before after r → DistrictWritten whole asked reply buf before after r
  whole_written q w = record { text = subst (DistrictBy asked reply buf before after r) (sym q) w }

  pub part_written : whole ≡ false → FixedWritten asked reply buf before after r → DistrictWritten whole asked reply buf before after r
  part_written q w = record { text = subst (DistrictBy asked reply buf before after r) (sym q) w }

pub district_fits : (whole : Bool) {asked : Question} {buf before after : List ℕ} {reply : Reply} {room r : ℕ} → TextAsked (graph_in asked) reply buf room
    → DistrictWritten whole asked reply buf before after r → r ≤ length before
district_fits true a w = text_fits a w.text
district_fits false {reply = reply} a w = fixed_fits reply a w.text

-- The check's answer: yes, or a number.
module _ (v : Result ℕ Refusal) {before after : List ℕ} {r : ℕ} where
  pub yes_put : {heaviest : ℕ} → v ≡ Ok heaviest → PutTo 0 (line "yes" (heaviest ∷ [])) before after r → PutTo 0 (verdict_text (says v)) before after r
  unfolding verdict_text
  yes_put q p = subst (λ x. PutTo 0 (verdict_text (says x)) before after r) (sym q) p

  pub number_put : {f : Refusal} → v ≡ Err f → RefusalWritten (number_of f) before after r → PutTo 0 (verdict_text (says v)) before after r
  unfolding verdict_text text_of
  number_put q p = subst (λ x. PutTo 0 (verdict_text (says x)) before after r) (sym q) (p.text (graph_of [] []))
