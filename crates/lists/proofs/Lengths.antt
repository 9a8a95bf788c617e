-- Lengths compared: a list without repeats is no longer than a list that has all its elements, and if it is no shorter it has all of that list's.
-- Assumes nothing.
use Prim.Native.Nat.{ℕ, ◌≤◌}
use mathlib.Core.Path.{◌≡◌}
use mathlib.Core.Bool.{true, false}
use mathlib.Core.List.Memᴰ
use mathlib.Core.List.{List, ◌∷◌}
use mathlib.Core.Logic.{◌⊎◌, inl, inr}
use native.Mathlib.Omega.{arith}
use lib.ListN.{length}
use Rattle.lists.specs.Lists.{member}
use Rattle.lists.specs.Member.{◌∈◌}
use Rattle.lists.proofs.Member.{either, member_in, member_out}
use Rattle.lists.proofs.InOrder.{next, Once}
use Rattle.lists.proofs.Sums.{sum_within}
use Rattle.lists.proofs.SumsAlike.{length_sum}

-- a list in which something stands is not empty
pub some_member {ℓ} : {A : Type ℓ} {x : A} {xs : List A} → x ∈ xs → 1 ≤ length xs
some_member (Memᴰ.head e) = omega arith
some_member (Memᴰ.tail m) = omega arith

-- a list without repeats is no longer than one that has all its elements
pub length_within {ℓ} : {A : Type ℓ} {xs ys : List A} → Once xs → ((x : A) → x ∈ xs → x ∈ ys) → length xs ≤ length ys
length_within {xs = xs} {ys = ys} once sub = omega (arith, length_sum xs, length_sum ys, sum_within (λ _. 1) once sub)

-- a list without repeats that is as long as one that has all its elements has all elements of that one
pub within_whole : {xs ys : List ℕ} → Once xs → ((x : ℕ) → x ∈ xs → x ∈ ys) → length ys ≤ length xs → (y : ℕ) → y ∈ ys → y ∈ xs
within_whole {xs} {ys} once sub most y m = go (either (member y xs))
  where
    among : (x : ℕ) → x ∈ (y ∷ xs) → x ∈ ys
    among x (Memᴰ.head q) = Memᴰ.cast q m
    among x (Memᴰ.tail n) = sub x n

    go : (member y xs ≡ true) ⊎ (member y xs ≡ false) → y ∈ xs
    go (inl e) = member_in y xs e
    go (inr e) =
        let longer : Once (y ∷ xs) = next (λ z n q. member_out y xs (rw e) (Memᴰ.cast q n)) once in
        absurd (omega (arith, length_within longer among))
