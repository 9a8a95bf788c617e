-- A fact of each number is shown by the one number where it is new: so after a store, and after marks set one by one.
-- Assumes nothing.
use Prim.Native.Nat.{ℕ, ◌+◌, ◌<◌}
use mathlib.Core.Path.{◌≡◌, refl, sym, ap, ◌∙◌}
use mathlib.Core.Logic.{dite}
use mathlib.Core.List.{List}
use native.Mathlib.Decide.{ℕ_discrete}
use native.Mathlib.Omega.{arith}
use lib.ListN.{length, get_or, set}
use lib.Seq.{get_or-set_same, get_or-set_other}
use borrow.Author.Count.{below_more}

-- What holds of j, and of every k that is not j, holds of every k.
pub at_or_not : (P : ℕ → Type 0) (j k : ℕ) → P j → ((k ≡ j → ⊥) → P k) → P k
at_or_not P j k at other = dite (ℕ_discrete k j) (λ e. rw e at) other

-- After a store at i, what holds of i and the value stored, and elsewhere of what was there, holds of what is there.
pub after_store : (P : ℕ → ℕ → Type 0) (l : List ℕ) (i v k : ℕ) → i < length l → P i v → ((k ≡ i → ⊥) → P k (get_or l k 0)) → P k (get_or (set l i v) k 0)
after_store P l i v k within at other =
    at_or_not (λ x. P x (get_or (set l i v) x 0)) i k (rw (get_or-set_same l i v 0 within) at) (λ away. rw (get_or-set_other l i k v 0 away) (other away))

-- Places are marked one by one. One more is marked now,
module _ (places marks : List ℕ) (i : ℕ) {x : ℕ} (place_is : x ≡ get_or places i 0) (within : x < length marks) where
  pub marked_more : ((h : ℕ) → h < i → get_or marks (get_or places h 0) 0 ≡ 1) → (h : ℕ) → h < i + 1 → get_or (set marks x 1) (get_or places h 0) 0 ≡ 1
  marked_more each =
      below_more (λ h. get_or (set marks x 1) (get_or places h 0) 0 ≡ 1) i
      (λ h l. after_store (λ _ y. y ≡ 1) marks x 1 (get_or places h 0) within refl (λ away. each h l))
      (ap (λ k. get_or (set marks x 1) k 0) (sym place_is) ∙ get_or-set_same marks x 1 0 within)

  -- and what is marked is one of them.
  pub only_marked_more : (k : ℕ) → (get_or marks k 0 ≡ 1 → (h : ℕ) × (h < i) × (get_or places h 0 ≡ k))
      → get_or (set marks x 1) k 0 ≡ 1 → (h : ℕ) × (h < i + 1) × (get_or places h 0 ≡ k)
  only_marked_more k only =
      after_store (λ k y. y ≡ 1 → (h : ℕ) × (h < i + 1) × (get_or places h 0 ≡ k)) marks x 1 k within (λ _. (i, omega arith, sym place_is))
      (λ away t. let (h, l, q) = only t in (h, omega arith, q))
