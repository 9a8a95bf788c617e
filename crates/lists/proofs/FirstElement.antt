-- The first element of a list of numbers, 0 where there is none, as it is read.
-- Assumes nothing.
use Prim.Native.Nat.{ℕ}
use mathlib.Core.Path.{◌≡◌, refl}
use mathlib.Core.List.{List, [], ◌∷◌, head_d}
use lib.ListN.{get_or}

-- It stands at place 0.
pub head_at : (l : List ℕ) → head_d l 0 ≡ get_or l 0 0
unfolding head_d
head_at [] = refl
head_at (x ∷ xs) = refl
