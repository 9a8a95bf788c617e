-- Lists made for each element of a list, from its place and itself, and joined: those of the first elements come first.
-- Assumes nothing.
use Prim.Native.Nat.{ℕ, suc, ◌+◌, ◌≤◌, ◌<◌}
use mathlib.Core.Path.{◌≡◌, refl, sym, ap, ◌∙◌}
use mathlib.Core.List.{List, [], ◌∷◌, ◌++◌, map, append_assoc, append-nil}
use native.Mathlib.Nat.{zero-add}
use native.Mathlib.Omega.{arith}
use lib.ListN.{length, take, drop, get_or, length-append, take-append-drop}
use lib.Seq.{length-take-le}
use Rattle.lists.specs.Lists.{flat}
use Rattle.lists.proofs.TakeDrop.{take_more}

module _ {A B : Type 0} (f : ℕ → A → List B) where
  -- what f makes of each element and its place, places counted from j on
  unfoldable pub made_from : ℕ → List A → List B
  made_from j [] = []
  made_from j (x ∷ xs) = f j x ++ made_from (suc j) xs

  made_append : (j : ℕ) (xs ys : List A) → made_from j (xs ++ ys) ≡ made_from j xs ++ made_from (j + length xs) ys
  unfolding made_from
  made_append j [] ys = let here : j + 0 ≡ j = omega arith in rw here
  made_append j (x ∷ xs) ys =
      let there : suc j + length xs ≡ j + suc (length xs) = omega arith in
      rw append_assoc (ap (λ l. f j x ++ l) (rw there at (made_append (suc j) xs ys)))

  module _ (xs : List A) (i : ℕ) (d : A) (h : i < length xs) where
    -- what the first elements make, with the next one
    pub made_more : made_from 0 (take (i + 1) xs) ≡ made_from 0 (take i xs) ++ f i (get_or xs i d)
    unfolding made_from
    made_more =
        let place : 0 + length (take i xs) ≡ i = zero-add (length (take i xs)) ∙ length-take-le i xs (omega arith) in
        ap (made_from 0) (take_more d xs i h)
        ∙ made_append 0 (take i xs) (get_or xs i d ∷ [])
        ∙ ap (λ k. made_from 0 (take i xs) ++ (f k (get_or xs i d) ++ [])) place
        ∙ ap (λ l. made_from 0 (take i xs) ++ l) (append-nil (f i (get_or xs i d)))

    -- it is no longer than what all make
    pub made_within : length (made_from 0 (take i xs)) + length (f i (get_or xs i d)) ≤ length (made_from 0 xs)
    made_within =
        let rest = made_from (0 + length (take (i + 1) xs)) (drop (i + 1) xs) in
        let whole : made_from 0 xs ≡ made_from 0 (take (i + 1) xs) ++ rest
        = ap (made_from 0) (sym (take-append-drop (i + 1) xs)) ∙ made_append 0 (take (i + 1) xs) (drop (i + 1) xs) in
        omega (
          arith,
          ap length whole,
          length-append (made_from 0 (take (i + 1) xs)) rest,
          ap length made_more,
          length-append (made_from 0 (take i xs)) (f i (get_or xs i d)),
        )

module _ {A B : Type 0} where
  -- where the place does not matter, these are the lists made for the elements
  pub made_flat : (f : A → List B) (j : ℕ) (xs : List A) → made_from (λ k. f) j xs ≡ flat (map f xs)
  unfolding made_from flat
  made_flat f j [] = refl
  made_flat f j (x ∷ xs) = ap (λ l. f x ++ l) (made_flat f (suc j) xs)

  -- one element for each is a map
  pub made_map : (f : A → B) (j : ℕ) (xs : List A) → made_from (λ k x. f x ∷ []) j xs ≡ map f xs
  unfolding made_from
  made_map f j [] = refl
  made_map f j (x ∷ xs) = ap (λ l. f x ∷ l) (made_map f (suc j) xs)
