-- One more element at the end: what it makes of the sum over the first elements of a list.
-- Assumes nothing.
use Prim.Native.Nat.{ℕ, ◌+◌, ◌≤◌, ◌<◌}
use mathlib.Core.Path.{◌≡◌, ap, ◌∙◌}
use mathlib.Core.List.{List, [], ◌∷◌, ◌++◌}
use native.Mathlib.Omega.{arith}
use lib.ListN.{length, take, drop, get_or, take-append-drop}
use Rattle.lists.specs.Lists.{sum_of}
use Rattle.lists.proofs.Sums.{sum_append}
use Rattle.lists.proofs.TakeDrop.{take_more}

module _ {A : Type 0} where
  module _ (f : A → ℕ) where
    -- the sum with one element more
    pub sum_more : (xs : List A) (x : A) → sum_of f (xs ++ (x ∷ [])) ≡ sum_of f xs + f x
    unfolding sum_of
    sum_more xs x = omega (arith, sum_append f xs (x ∷ []))

    -- the sum over the first elements, with the next one
    pub sum_first_more : (xs : List A) (i : ℕ) (d : A) → i < length xs → sum_of f (take (i + 1) xs) ≡ sum_of f (take i xs) + f (get_or xs i d)
    sum_first_more xs i d h = ap (sum_of f) (take_more d xs i h) ∙ sum_more (take i xs) (get_or xs i d)

    -- the first elements sum to no more than all
    pub sum_first : (xs : List A) (i : ℕ) → sum_of f (take i xs) ≤ sum_of f xs
    sum_first xs i = omega (arith, sum_append f (take i xs) (drop i xs), ap (sum_of f) (take-append-drop i xs))
