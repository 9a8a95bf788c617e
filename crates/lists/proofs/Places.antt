-- What stands in a list stands at a place of it, and the other way round; what stands at two places of a list in order.
-- Assumes nothing.
use Prim.Native.Nat.{ℕ, zero, suc, ◌<◌}
use mathlib.Core.Path.{◌≡◌, refl, sym}
use mathlib.Core.List.Memᴰ
use mathlib.Core.List.{List, [], ◌∷◌, map}
use native.Mathlib.Omega.{arith}
use lib.ListN.{length, get_or, length-map, get_or-map}
use Rattle.lists.specs.Count.{below}
use Rattle.lists.specs.Member.{◌∈◌}
use Rattle.lists.proofs.InOrder.{InOrder, next}
use Rattle.lists.proofs.Runs.{map_below}

module _ {ℓ} {A : Type ℓ} (d : A) where
  -- what stands at a place stands in the list
  pub at_place : (xs : List A) (i : ℕ) → i < length xs → get_or xs i d ∈ xs
  at_place [] i h = absurd (omega arith)
  at_place (x ∷ xs) zero h = Memᴰ.head refl
  at_place (x ∷ xs) (suc i) h = Memᴰ.tail (at_place xs i (omega arith))

  -- what stands in the list stands at a place
  pub place_of : {x : A} {xs : List A} → x ∈ xs → (i : ℕ) × (i < length xs) × (get_or xs i d ≡ x)
  place_of {xs = []} x3 = elim x3 [ ]
  place_of {xs = x ∷ xs} (Memᴰ.head q) = (0, omega arith, sym q)
  place_of {xs = x ∷ xs} (Memᴰ.tail m) = let (i, h, q) = place_of m in (suc i, omega arith, q)

-- in a list in order, what stands at a place stands in the relation to what stands at a later one
pub places_in_order {ℓ κ} : {A : Type ℓ} {R : A → A → Type κ} (d : A) {xs : List A} → InOrder R xs
    → (i j : ℕ) → i < j → j < length xs → R (get_or xs i d) (get_or xs j d)
places_in_order d {xs = []} r i j h l = absurd (omega arith)
places_in_order d {xs = x ∷ xs} r i zero h l = absurd (omega arith)
places_in_order d {xs = x ∷ xs} (next p r) zero (suc j) h l = p (get_or xs j d) (at_place d xs j (omega arith))
places_in_order d {xs = x ∷ xs} (next p r) (suc i) (suc j) h l = places_in_order d r i j (omega arith) (omega arith)

-- what stands at a place of a mapped list
pub map_at {ℓ κ} : {A : Type ℓ} {B : Type κ} (f : A → B) (d : A) (e : B) (xs : List A) (i : ℕ) → i < length xs → get_or (map f xs) i e ≡ f (get_or xs i d)
map_at f d e [] i h = absurd (omega arith)
map_at f d e (x ∷ xs) zero h = refl
map_at f d e (x ∷ xs) (suc i) h = map_at f d e xs i (omega arith)

-- to map what stands at each place is to map the list
pub map_at_places {ℓ κ} : {A : Type ℓ} {B : Type κ} (f : A → B) (d : A) (xs : List A) → map (λ i. f (get_or xs i d)) (below (length xs)) ≡ map f xs
map_at_places f d xs = rw (length-map xs f) at (map_below (λ i. f (get_or xs i d)) (f d) (map f xs) (λ i h. sym (get_or-map f xs i d)))
