-- Lists that are written place by place along a run of numbers: how long they are, and what stands at each place.
-- Assumes nothing.
use Prim.Native.Nat.{ℕ, zero, suc, ◌+◌, ◌<◌}
use mathlib.Core.Path.{◌≡◌, refl, ap, ap₂, ◌∙◌}
use mathlib.Core.List.Memᴰ
use mathlib.Core.List.{List, [], ◌∷◌, map}
use native.Mathlib.Omega.{arith}
use lib.ListN.{length, get_or, length-map}
use Rattle.lists.specs.Count.{from, below}
use Rattle.lists.specs.Member.{◌∈◌}

-- A run of n numbers has n elements.
pub length_from : (a n : ℕ) → length (from a n) ≡ n
unfolding from
length_from a zero = refl
length_from a (suc n) = ap suc (length_from (suc a) n)

pub length_below : (n : ℕ) → length (below n) ≡ n
unfolding below
length_below n = length_from 0 n

module _ {ℓ} {A : Type ℓ} (f : ℕ → A) where
  -- A list is the run of its places, each mapped to what stands there.
  pub map_places : (d : A) (xs : List A) (a : ℕ) → ((i : ℕ) → i < length xs → f (a + i) ≡ get_or xs i d) → map f (from a (length xs)) ≡ xs
  unfolding from
  map_places d [] a h = refl
  map_places d (x ∷ xs) a h =
      ap₂ ◌∷◌ (ap f (omega arith) ∙ h 0 (omega arith)) (map_places d xs (suc a) (λ i l. ap f (omega arith) ∙ h (suc i) (omega arith)))

  pub map_below : (d : A) (xs : List A) → ((i : ℕ) → i < length xs → f i ≡ get_or xs i d) → map f (below (length xs)) ≡ xs
  unfolding below
  map_below d xs h = map_places d xs 0 (λ i l. ap f (omega arith) ∙ h i l)

  -- A mapped run is as long as the run.
  pub length_map_below : (n : ℕ) → length (map f (below n)) ≡ n
  length_map_below n = length-map (below n) f ∙ length_below n

  -- What stands at a place of a mapped run.
  pub get_or_map_from : (d : A) (a n i : ℕ) → i < n → get_or (map f (from a n)) i d ≡ f (a + i)
  unfolding from
  get_or_map_from d a zero i h = absurd (omega arith)
  get_or_map_from d a (suc n) zero h = ap f (omega arith)
  get_or_map_from d a (suc n) (suc i) h = get_or_map_from d (suc a) n i (omega arith) ∙ ap f (omega arith)

  pub get_or_map_below : (d : A) (n i : ℕ) → i < n → get_or (map f (below n)) i d ≡ f i
  unfolding below
  get_or_map_below d n i h = get_or_map_from d 0 n i h ∙ ap f (omega arith)

module _ {ℓ κ} {A : Type ℓ} {B : Type κ} where
  -- Functions that agree on the elements map a list alike.
  pub map_same : {f h : A → B} (xs : List A) → ((x : A) → x ∈ xs → f x ≡ h x) → map f xs ≡ map h xs
  map_same [] s = refl
  map_same (x ∷ xs) s = ap₂ ◌∷◌ (s x (Memᴰ.head refl)) (map_same xs (λ y m. s y (Memᴰ.tail m)))

-- Lists that are mapped alike are alike place by place.
pub same_images : {A B C : Type 0} (f : A → C) (h : B → C) (xs : List A) (ys : List B) → map f xs ≡ map h ys
    → (d : A) (e : B) (i : ℕ) → i < length xs → f (get_or xs i d) ≡ h (get_or ys i e)
same_images f h [] ys q d e i l = absurd (omega arith)
same_images f h (x ∷ xs) [] q d e i l = let z : ◌≡◌ {A = ℕ} 0 1 = cc in absurd (omega arith)
same_images f h (x ∷ xs) (y ∷ ys) q d e zero l = cc
same_images f h (x ∷ xs) (y ∷ ys) q d e (suc i) l = let r : map f xs ≡ map h ys = cc in same_images f h xs ys r d e i (omega arith)
