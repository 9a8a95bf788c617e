-- The end of a line, number by number.
-- Assumes nothing.
use Prim.Native.Nat.{ℕ}
use mathlib.Core.Path.{◌≡◌, refl, ap, ◌∙◌}
use mathlib.Core.List.{List, [], ◌∷◌, ◌++◌, append_assoc}
use Rattle.lists.specs.Lists.{flat}
use Rattle.reply_text.specs.Lines.{bytes_of, spaced, all_spaced, ended}

pub spaced_none : all_spaced [] ≡ []
unfolding all_spaced flat
spaced_none = refl

pub spaced_next : (n : ℕ) (ns : List ℕ) → all_spaced (n ∷ ns) ≡ spaced n ++ all_spaced ns
unfolding all_spaced flat
spaced_next n ns = refl

pub ended_none : ended [] ≡ bytes_of "\n"
unfolding ended all_spaced flat
ended_none = refl

pub ended_next : (n : ℕ) (ns : List ℕ) → ended (n ∷ ns) ≡ spaced n ++ ended ns
unfolding ended
ended_next n ns = ap (λ l. l ++ bytes_of "\n") (spaced_next n ns) ∙ append_assoc (spaced n) (all_spaced ns) (bytes_of "\n")

-- A line of one number.
pub ended_one : (n : ℕ) → ended (n ∷ []) ≡ spaced n ++ bytes_of "\n"
ended_one n = ended_next n [] ∙ ap (λ l. spaced n ++ l) ended_none
