-- Standing in a list, as a statement.
-- Assumes nothing.
use mathlib.Core.List.{List, Memᴰ}

infix 40 ◌∈◌
-- x stands in the list
abbrev pub ◌∈◌ {ℓ} : {A : Type ℓ} → A → List A → Type ℓ
x ∈ xs = Memᴰ x xs
