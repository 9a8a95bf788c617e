-- What is written of a reply where the rules leave a choice, reply by reply, and that it fits.
-- Assumes nothing.
use Prim.Native.Nat.{ℕ, ◌≤◌}
use mathlib.Core.Path.{◌≡◌, sym, ap, subst, ◌∙◌, refl}
use mathlib.Core.Bool.{Bool}
use mathlib.Core.List.{List, []}
use lib.ListN.{length, take}
use Rattle.lists.specs.Put.{PutTo}
use Rattle.lists.proofs.Put.{put_fits}
use Rattle.graph.specs.Graph.{Graph}
use Rattle.rules.specs.CoverBytes.{cover_length}
use Rattle.rules.specs.Questions.{Question, graph_in}
use Rattle.replies.specs.declared.Reply.{Reply}
use Rattle.replies.specs.declared.Reply.TheVariants.{Refused, Cover, Stop, Parts, Needs, NoCover}
use Rattle.reply_text.specs.Lines.{line}
use Rattle.reply_text.specs.Replies.{TextAsked, TextWritten}
use Rattle.gate_replies.specs.Fixed.{confirmed, sure_line, FixedBy, FixedWritten}
use Rattle.gate_replies.proofs.FullReplies.{Other}

module _ {q : Question} {buf before after : List ℕ} {r : ℕ} where
  -- A cover: the buffer's own counts say where its bytes end.
  pub fixed_cover : {reply : Reply} {limit heaviest t end : ℕ} {sure : Bool} → reply ≡ Cover limit heaviest t → end ≡ cover_length buf
      → sure ≡ confirmed q (take end buf) heaviest → PutTo 0 (sure_line limit sure t) before after r → FixedWritten q reply buf before after r
  fixed_cover {limit = limit} {heaviest = heaviest} {t = t} is ends answer p =
      record {
        fixed =
            subst (FixedBy q buf before after r) (sym is)
            (subst (λ s. PutTo 0 (sure_line limit s t) before after r) (answer ∙ ap (λ n. confirmed q (take n buf) heaviest) ends) p);
      }

  -- Parts.
  pub fixed_parts : {reply : Reply} {T D : ℕ} → reply ≡ Parts T D → PutTo 0 (line "too low parts" []) before after r → FixedWritten q reply buf before after r
  fixed_parts is p = record { fixed = subst (FixedBy q buf before after r) (sym is) p }

  -- Any other.
  pub fixed_other : (x : Reply) → Other x → TextWritten (graph_in q) x buf before after r → FixedWritten q x buf before after r
  fixed_other (Refused f) o p = record { fixed = p }
  fixed_other (Cover limit heaviest t) o p = absurd (o.0 limit heaviest t refl)
  fixed_other (Stop v) o p = record { fixed = p }
  fixed_other (Parts T D) o p = absurd (o.1 T D refl)
  fixed_other (Needs C) o p = record { fixed = p }
  fixed_other NoCover o p = record { fixed = p }

-- The whole text fits.
pub text_fits : {g : Graph} {buf before after : List ℕ} {reply : Reply} {room r : ℕ} → TextAsked g reply buf room → TextWritten g reply buf before after r → r ≤ length before
text_fits a w = put_fits (w.text a.ruled a.earlier a.replied a.printable)

-- So does what the rules fix.
pub fixed_fits : {q : Question} {buf before after : List ℕ} (reply : Reply) {room r : ℕ} → TextAsked (graph_in q) reply buf room
    → FixedWritten q reply buf before after r → r ≤ length before
fixed_fits (Cover limit heaviest t) a w = put_fits w.fixed
fixed_fits (Parts T D) a w = put_fits w.fixed
fixed_fits (Refused f) a w = text_fits a w.fixed
fixed_fits (Stop v) a w = text_fits a w.fixed
fixed_fits (Needs C) a w = text_fits a w.fixed
fixed_fits NoCover a w = text_fits a w.fixed
