-- Lists in which each element stands in a relation to all that follow it: sorted lists, lists without repeats, and lists of numbers that rise.
-- Assumes nothing.
use Rattle.std.specs.Prelude.{ℕ, ◌<◌, ◌≡◌, List, [], ◌∷◌}
use Rattle.lists.specs.Member.{◌∈◌}

-- each element stands in the relation to all that follow it
pub data InOrder {ℓ κ} {A : Type ℓ} (R : A → A → Type κ) : List A → Type (ℓ ⊔ κ) where
  none : InOrder R []
  next : {x : A} {xs : List A} → ((y : A) → y ∈ xs → R x y) → InOrder R xs → InOrder R (x ∷ xs)

-- no element stands in the list twice
abbrev pub Once {ℓ} : {A : Type ℓ} → List A → Type ℓ
Once {A = A} xs = InOrder (λ (x y : A). x ≡ y → ⊥) xs

-- each number is below all that follow it
abbrev pub Rising : List ℕ → Type 0
Rising xs = InOrder (λ (x y : ℕ). x < y) xs
