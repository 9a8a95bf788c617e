-- How long texts are: a number of 64 bits has at most 20 digits.
-- Assumes nothing.
use Prim.Native.Nat.{ℕ, ◌^◌, ◌≤◌, ◌<◌}
use mathlib.Core.Path.{◌≡◌, ap, ◌∙◌}
use mathlib.Core.List.{List, [], ◌∷◌, ◌++◌, append_assoc}
use native.Mathlib.Omega.{arith}
use lib.ListN.{length, length-append}
use Rattle.graph.specs.Graph.{Graph}
use Rattle.rules.specs.CoverBytes.{decode}
use Rattle.reply_text.specs.Lines.{bytes_of, spaced, ended, line}
use Rattle.reply_text.specs.Text.{tree_lines}
use Rattle.reply_text.specs.Replies.{cover_text}
use Rattle.reply_text.proofs.Digits.{digits_few}
use Rattle.reply_text.proofs.LineEnds.{ended_next, ended_one}

module _ (x : ℕ) (small : x < 2 ^ 64) where
  -- with the space
  pub spaced_few : length (spaced x) ≤ 21
  unfolding spaced
  spaced_few = omega (arith, digits_few 19 x (omega arith))

  -- and with the newline
  pub last_few : length (ended (x ∷ [])) ≤ 22
  last_few = omega (arith, spaced_few, ap length (ended_one x), length-append (spaced x) (bytes_of "\n"))

-- The parts of a cover's text: from the heaviest weight on, and from the limit on.
module _ (g : Graph) (limit heaviest t : ℕ) (c : List ℕ) where
  abbrev pub trees : List ℕ
  trees = tree_lines g (decode c)

  abbrev pub from_count : List ℕ
  from_count = ended (t ∷ []) ++ trees

  abbrev pub from_heaviest : List ℕ
  from_heaviest = spaced heaviest ++ from_count

  abbrev pub from_limit : List ℕ
  from_limit = spaced limit ++ from_heaviest

  pub cover_parts : cover_text g limit heaviest t c ≡ bytes_of "cover" ++ from_limit
  unfolding cover_text line
  cover_parts =
      ap (λ l. (bytes_of "cover" ++ l) ++ trees) (ended_next limit (heaviest ∷ t ∷ []) ∙ ap (λ l. spaced limit ++ l) (ended_next heaviest (t ∷ [])))
      ∙ ap (λ l. bytes_of "cover" ++ l)
      (append_assoc (spaced limit) (spaced heaviest ++ ended (t ∷ [])) trees ∙ ap (λ l. spaced limit ++ l) (append_assoc (spaced heaviest) (ended (t ∷ [])) trees))
