-- The least of a number and the numbers of a list is one of them, and at most each of the list.
-- Assumes nothing.
use Prim.Native.Nat.{ℕ, ◌≤◌, min}
use mathlib.Core.Path.{◌≡◌, refl}
use mathlib.Core.List.Memᴰ
use mathlib.Core.List.{List, [], ◌∷◌, foldr}
use mathlib.Core.Logic.{◌⊎◌, inl, inr}
use native.Mathlib.Omega.{arith}
use Rattle.lists.specs.Member.{◌∈◌}
use Rattle.lists.proofs.Below.{equal_or_not}

pub least_in : (a : ℕ) (xs : List ℕ) → foldr min a xs ∈ (a ∷ xs)
least_in a [] = Memᴰ.head refl
least_in a (x ∷ xs) = go (foldr min a xs) (equal_or_not (min x (foldr min a xs)) x) (least_in a xs)
  where
    later : {z : ℕ} → z ∈ (a ∷ xs) → z ∈ (a ∷ x ∷ xs)
    later (Memᴰ.head q) = Memᴰ.head q
    later (Memᴰ.tail m) = Memᴰ.tail (Memᴰ.tail m)

    go : (n : ℕ) → (min x n ≡ x) ⊎ (min x n ≡ x → ⊥) → n ∈ (a ∷ xs) → min x n ∈ (a ∷ x ∷ xs)
    go n (inl q) m = Memᴰ.tail (Memᴰ.head q)
    go n (inr d) m = Memᴰ.cast (omega arith) (later m)

pub least_most : (a : ℕ) {x : ℕ} {xs : List ℕ} → x ∈ xs → foldr min a xs ≤ x
least_most a (Memᴰ.head q) = omega arith
least_most a (Memᴰ.tail m) = omega (arith, least_most a m)
