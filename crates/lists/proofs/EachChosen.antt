-- Where for each number below a bound there is something of a kind, a list holds one for each.
-- Assumes nothing.
use Prim.Native.Nat.{ℕ, zero, suc, ◌<◌}
use mathlib.Core.List.{List, [], ◌∷◌}
use native.Mathlib.Omega.{arith}
use lib.ListN.{get_or}

module _ {ℓ κ} {A : Type ℓ} (d : A) where
  pub each_chosen : (P : ℕ → A → Type κ) (n : ℕ) → ((i : ℕ) → i < n → (x : A) × P i x) → (xs : List A) × ((i : ℕ) → i < n → P i (get_or xs i d))
  each_chosen P zero some = ([], λ i h. absurd (omega arith))
  each_chosen P (suc n) some =
      let (x, q) = some 0 (omega arith) in
      let (xs, r) = each_chosen (λ i. P (suc i)) n (λ i h. some (suc i) (omega arith)) in
      (x ∷ xs, all x xs q r)
    where
      all : (x : A) (xs : List A) → P 0 x → ((i : ℕ) → i < n → P (suc i) (get_or xs i d)) → (i : ℕ) → i < suc n → P i (get_or (x ∷ xs) i d)
      all x xs q r zero h = q
      all x xs q r (suc i) h = r i (omega arith)
