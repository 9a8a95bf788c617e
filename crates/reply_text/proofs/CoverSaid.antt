-- The text of a cover, from the buffer that holds its bytes: the trees that are read are the rules' trees.
-- Assumes nothing.
use Prim.Native.Nat.{ℕ, ◌≤◌}
use mathlib.Core.Path.{◌≡◌, refl, sym, ap, ◌∙◌}
use mathlib.Core.List.{List, [], ◌∷◌, ◌++◌}
use native.Mathlib.Omega.{arith}
use lib.ListN.{length, take, drop}
use Rattle.lists.specs.Put.{PutTo}
use Rattle.graph.specs.Graph.{Graph}
use Rattle.rules.specs.CoverBytes.{cover_length, encode, decode}
use Rattle.rules.specs.Questions.{written, buffer_after}
use Rattle.rules.specs.Reply as rules
use Rattle.replies.specs.declared.Reply.{Reply}
use Rattle.replies.specs.declared.Reply.TheVariants.{Cover}
use Rattle.replies.specs.Replies.{Said, said, said_of, says, Replied}
use Rattle.reply_text.specs.Lines.{line}
use Rattle.reply_text.specs.Text.{tree_lines, text_of}
use Rattle.reply_text.specs.Trees.{TreesAsked}
use Rattle.reply_text.specs.Replies.{CoverOf, Printable, TextAsked, TextWritten, cover_text}
use Rattle.reply_text.proofs.CoverRead.{trees_again, entries_right_lem, lines_room, cover_end, cover_front}
use Rattle.reply_text.proofs.SaidText.{text_said, trees_of, said_text}

-- The rules' reply accepts a cover, whose bytes are the first of the buffer.
record Accepted (g : Graph) (ruled : rules.Reply) (buf : List ℕ) : Type 0 where
  cover : CoverOf g (trees_of ruled)
  rest : List ℕ
  first : buf ≡ encode (trees_of ruled) ++ rest

-- Replies with another number, or with no values, are no covers.
other_number : {m n : ℕ} {vs ws : List ℕ} → said m vs ≡ said n ws → (m ≡ n → ⊥) → ⊥
other_number q other = other (ap (λ (s : Said). s.number) q)

no_values : {m n v : ℕ} {vs : List ℕ} → said m (v ∷ vs) ≡ said n [] → ⊥
no_values {v = v} {vs = vs} q = let e : v ∷ vs ≡ [] = ap (λ (s : Said). s.values) q in let z : ◌≡◌ {A = ℕ} 0 1 = cc in omega arith

accepted : (g : Graph) (ruled : rules.Reply) (earlier : List ℕ) {buf : List ℕ} {limit heaviest t : ℕ}
    → said 0 (limit ∷ heaviest ∷ t ∷ []) ≡ said_of ruled → buf ≡ buffer_after ruled earlier → Printable g ruled → Accepted g ruled buf
unfolding trees_of buffer_after written
accepted g (rules.covered limit heaviest trees) earlier q e p =
    record { cover = p.cover limit heaviest trees refl; rest = drop (length (encode trees)) earlier; first = e }
accepted g (rules.refused number) earlier q e p = absurd (no_values q)
accepted g (rules.too_low_stop v) earlier q e p = absurd (other_number q (λ z. omega arith))
accepted g (rules.too_low_parts T D parts) earlier q e p = absurd (other_number q (λ z. omega arith))
accepted g (rules.too_low_needs C) earlier q e p = absurd (other_number q (λ z. omega arith))
accepted g rules.no_cover earlier q e p = absurd (no_values q)

module _ {g : Graph} {buf : List ℕ} {reply : Reply} {limit heaviest t end : ℕ} (q : reply ≡ Cover limit heaviest t) (ends : end ≡ cover_length buf) where
  module _ {ruled : rules.Reply} {earlier : List ℕ} (e : Replied ruled earlier buf reply) (p : Printable g ruled) where
    here : Accepted g ruled buf
    here = accepted g ruled earlier (sym (ap says q) ∙ e.same) e.buffer p

    front : take end buf ≡ encode (trees_of ruled)
    front = ap (λ n. take n buf) ends ∙ cover_front g here.cover buf here.rest here.first

    end_is : end ≡ length (take end buf)
    end_is = ends ∙ cover_end g here.cover buf here.rest here.first ∙ sym (ap length front)

    asked_here : {room : ℕ} → 65536 ≤ room → TreesAsked g (take end buf) 69 room
    asked_here enough =
        record {
          entries = rw front (entries_right_lem g here.cover);
          fits = rw (front, trees_again g here.cover) (omega (arith, lines_room g here.cover));
        }

    text_here : text_of g ruled ≡ cover_text g limit heaviest t (take end buf)
    unfolding cover_text text_said
    text_here =
        said_text g e p
        ∙ ap (λ x. text_said g (trees_of ruled) (says x)) q
        ∙ ap (λ l. line "cover" (limit ∷ heaviest ∷ t ∷ []) ++ tree_lines g l) (sym (ap decode front ∙ trees_again g here.cover))

  -- So the cover's bytes end inside the buffer, and its text may be written; once it is, the reply's text is written.
  pub cover_inside : {room : ℕ} → TextAsked g reply buf room → end ≡ length (take end buf)
  cover_inside a = end_is a.replied a.printable

  pub cover_asked : {room : ℕ} → TextAsked g reply buf room → TreesAsked g (take end buf) 69 room
  cover_asked a = asked_here a.replied a.printable a.enough

  pub cover_written : {before after : List ℕ} {r : ℕ} → PutTo 0 (cover_text g limit heaviest t (take end buf)) before after r → TextWritten g reply buf before after r
  cover_written p = record { text = λ ruled earlier e h. rw (text_here e h) p }
