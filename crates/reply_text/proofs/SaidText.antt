-- The text of a reply by its number and values, which the program's reply and the rules' share.
-- Assumes nothing.
use Prim.Native.Nat.{ℕ, ◌≤◌}
use mathlib.Core.Path.{◌≡◌, refl, sym, ap, ◌∙◌}
use mathlib.Core.Bool.{cond}
use mathlib.Core.List.{List, [], ◌∷◌, ◌++◌}
use lib.Dec.{leb, eqb}
use lib.ListN.{drop, get_or}
use borrow.Author.Tests.{le-leb}
use Rattle.lists.specs.Put.{PutTo}
use Rattle.graph.specs.Graph.{Graph}
use Rattle.rules.specs.Cover.{Tree}
use Rattle.rules.specs.Reply as rules
use Rattle.admit.specs.declared.refusal.Refusal.{Refusal}
use Rattle.admit.specs.Refusals.{number_of}
use Rattle.admit.proofs.RefusalNumbers.{numbers_begin}
use Rattle.replies.specs.declared.Reply.{Reply}
use Rattle.replies.specs.Replies.{Said, said, said_of, says, Replied}
use Rattle.reply_text.specs.Lines.{bytes_of, spaced, line}
use Rattle.reply_text.specs.Text.{tree_lines, text_of}
use Rattle.reply_text.specs.Replies.{Printable, TextWritten}

-- By the number: 11 and above are refusals, 0 is a cover, 1 to 4 are the others.
unfoldable pub text_said : Graph → List Tree → Said → List ℕ
text_said g trees s =
    cond (leb 11 s.number) (line "refused" (s.number ∷ []))
    (cond (eqb s.number 0) (line "cover" s.values ++ tree_lines g trees)
    (cond (eqb s.number 1) (line "too low stop" s.values)
    (cond (eqb s.number 2) (bytes_of "too low parts" ++ (spaced (get_or s.values 0 0) ++ line " yards" (drop 1 s.values)))
    (cond (eqb s.number 3) (line "too low needs" s.values) (line "no cover" s.values)))))

-- The trees of a cover.
unfoldable pub trees_of : rules.Reply → List Tree
trees_of (rules.covered limit heaviest trees) = trees
trees_of (rules.refused number) = []
trees_of (rules.too_low_stop v) = []
trees_of (rules.too_low_parts T D parts) = []
trees_of (rules.too_low_needs C) = []
trees_of rules.no_cover = []

-- It is the text of the rules' reply.
ruled_text : (g : Graph) (ruled : rules.Reply) → ((number : ℕ) → ruled ≡ rules.refused number → 11 ≤ number) → text_of g ruled ≡ text_said g (trees_of ruled) (said_of ruled)
unfolding text_of text_said trees_of
ruled_text g (rules.refused number) least = rw (le-leb 11 number (least number refl))
ruled_text g (rules.covered limit heaviest trees) least = refl
ruled_text g (rules.too_low_stop v) least = refl
ruled_text g (rules.too_low_parts T D parts) least = refl
ruled_text g (rules.too_low_needs C) least = refl
ruled_text g rules.no_cover least = refl

-- So it is that of the program's reply.
pub said_text : (g : Graph) {ruled : rules.Reply} {earlier buf : List ℕ} {reply : Reply} → Replied ruled earlier buf reply → Printable g ruled
    → text_of g ruled ≡ text_said g (trees_of ruled) (says reply)
said_text g {ruled} q p = ruled_text g ruled p.refusal ∙ ap (text_said g (trees_of ruled)) (sym q.same)

-- Where the reply's text does not depend on the trees, and that text was written.
pub reply_written : (g : Graph) {buf before after xs : List ℕ} {reply x : Reply} {r : ℕ} → reply ≡ x
    → ((trees : List Tree) → text_said g trees (says x) ≡ xs) → PutTo 0 xs before after r → TextWritten g reply buf before after r
reply_written g q text p =
    record { text = λ ruled earlier e h. rw (said_text g e h ∙ ap (λ y. text_said g (trees_of ruled) (says y)) q ∙ text (trees_of ruled)) p }

-- The number of a cause is a refusal's.
pub cause_refused : (g : Graph) (trees : List Tree) (f : Refusal) → text_said g trees (said (number_of f) []) ≡ text_of g (rules.refused (number_of f))
unfolding text_of text_said
cause_refused g trees f = rw (le-leb 11 (number_of f) (numbers_begin f))
