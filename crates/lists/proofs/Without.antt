-- The list without a number, element by element.
-- Assumes nothing.
use Prim.Native.Nat.{ℕ}
use mathlib.Core.Path.{◌≡◌}
use mathlib.Core.List.Memᴰ
use mathlib.Core.List.{List, ◌∷◌}
use borrow.Author.Tests.{ne_eqb}
use Rattle.lists.specs.Lists.{filter, without}
use Rattle.lists.specs.Member.{◌∈◌}
use Rattle.lists.proofs.Member.{of_without, in_without}

-- another first element stays first
pub without_other : (v x : ℕ) (xs : List ℕ) → (v ≡ x → ⊥) → without v (x ∷ xs) ≡ x ∷ without v xs
unfolding without filter
without_other v x xs d = rw (ne_eqb v x d)

-- without its first element a list holds no more than its other elements
pub without_first : (v x : ℕ) (xs : List ℕ) → v ≡ x → {y : ℕ} → y ∈ without v (x ∷ xs) → y ∈ xs
without_first v x xs q {y} m = let r = of_without v (x ∷ xs) m in go r.0 r.1
  where
    go : y ∈ (x ∷ xs) → (v ≡ y → ⊥) → y ∈ xs
    go (Memᴰ.head e) d = absurd (d (rw e q))
    go (Memᴰ.tail n) d = n

-- a list within another stays within it when both lose a number
pub without_within : (v : ℕ) {xs ys : List ℕ} → ((x : ℕ) → x ∈ xs → x ∈ ys) → (x : ℕ) → x ∈ without v xs → x ∈ without v ys
without_within v {xs} sub x m = let r = of_without v xs m in in_without v (sub x r.0) r.1
