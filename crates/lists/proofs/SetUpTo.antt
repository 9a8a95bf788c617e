-- Values stored one after the other from the front of an array.
-- Assumes nothing.
use Prim.Native.Nat.{ℕ, ◌+◌, ◌≤◌, ◌<◌}
use mathlib.Core.Path.{◌≡◌, refl, sym, ◌∙◌}
use mathlib.Core.List.{List}
use native.Mathlib.Omega.{arith}
use borrow.Author.Count.{below_more}
use lib.ListN.{length, get_or, drop, set, length-set, length-drop}
use lib.Seq.{get_or-set_same, get_or-set_other, get_or-drop, ext_get_or}
use Rattle.lists.specs.Put.{OnlyFirst}
use Rattle.lists.proofs.OnlyFirst.{is_only_first}

-- The elements before i have their values; with one store more, those before i + 1 have.
pub stored_more : (f : ℕ → ℕ) (a : List ℕ) (i x : ℕ) → i < length a → ((h : ℕ) → h < i → get_or a h 0 ≡ f h) → x ≡ f i
    → (h : ℕ) → h < i + 1 → get_or (set a i x) h 0 ≡ f h
stored_more f a i x room so_far q =
    below_more (λ h. get_or (set a i x) h 0 ≡ f h) i (λ h l. get_or-set_other a i h x 0 (omega arith) ∙ so_far h l) (get_or-set_same a i x 0 room ∙ q)

-- The first i elements have their values, the others are as they came.
pub record SetUpTo (value : ℕ → ℕ) (i : ℕ) (before after : List ℕ) : Type 0 where
  pub size : length after ≡ length before
  pub done : (j : ℕ) → j < i → get_or after j 0 ≡ value j
  pub rest : (j : ℕ) → i ≤ j → get_or after j 0 ≡ get_or before j 0

module _ {value : ℕ → ℕ} where
  pub set_none : (before : List ℕ) → SetUpTo value 0 before before
  set_none before = record { size = refl; done = λ j h. absurd (omega arith); rest = λ j h. refl }

  pub set_more : {i : ℕ} {before after : List ℕ} {x : ℕ} → SetUpTo value i before after → i < length after → x ≡ value i → SetUpTo value (i + 1) before (set after i x)
  set_more {i} {before} {after} {x} s h q =
      record {
        size = length-set after i x ∙ s.size;
        done = stored_more value after i x h s.done q;
        rest = λ j l. get_or-set_other after i j x 0 (omega arith) ∙ s.rest j (omega arith);
      }

  -- So only the first i elements changed.
  pub set_only_first : {i : ℕ} {before after : List ℕ} → SetUpTo value i before after → OnlyFirst i before after
  set_only_first {i} {before} {after} s =
      is_only_first i s.size
      (ext_get_or 0 (drop i after) (drop i before) (simp length-drop (omega (arith, s.size)))
      (λ j l. get_or-drop i after j 0 ∙ s.rest (i + j) (omega arith) ∙ sym (get_or-drop i before j 0)))
