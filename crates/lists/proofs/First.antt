-- The first element that passes a test: whether there is one, two tests, elements that are passed over, and the lowest of rising numbers.
-- Assumes nothing.
use Prim.Native.Nat.{ℕ, ◌≤◌}
use mathlib.Core.Path.{◌≡◌, refl, sym, ap, ◌∙◌}
use mathlib.Core.Bool.{Bool, true, false, cond, ◌&&◌, true≢false}
use mathlib.Core.List.Memᴰ
use mathlib.Core.List.{List, [], ◌∷◌, ◌++◌}
use mathlib.Core.Option.{some, none}
use native.Mathlib.Omega.{arith}
use Rattle.lists.specs.Lists.{filter, first_that}
use Rattle.lists.specs.Member.{◌∈◌}
use Rattle.lists.specs.InOrder as InOrder

-- where there is none, every element fails
pub first_none {ℓ} : {A : Type ℓ} (f : A → Bool) (xs : List A) → first_that f xs ≡ none → (x : A) → x ∈ xs → f x ≡ false
unfolding first_that
first_none f [] q x m = absurd (Memᴰ.not-nil m)
first_none f (y ∷ ys) q x m = go (f y) refl q (λ r n. first_none f ys r x n) m
  where
    go : (b : Bool) → f y ≡ b → cond b (some y) (first_that f ys) ≡ none → (first_that f ys ≡ none → x ∈ ys → f x ≡ false) → x ∈ (y ∷ ys) → f x ≡ false
    go true e q ih n = let z : ◌≡◌ {A = ℕ} 0 1 = cc in absurd (omega arith)
    go false e q ih (Memᴰ.head p) = ap f p ∙ e
    go false e q ih (Memᴰ.tail n) = ih q n

-- where there is one, it stands in the list and passes
pub first_some {ℓ} : {A : Type ℓ} (f : A → Bool) (xs : List A) {x : A} → first_that f xs ≡ some x → (x ∈ xs) × (f x ≡ true)
unfolding first_that
first_some f [] q = let z : ◌≡◌ {A = ℕ} 0 1 = cc in absurd (omega arith)
first_some {A = A} f (y ∷ ys) {x} q = go (f y) refl q (λ r. first_some f ys r)
  where
    go : (b : Bool) → f y ≡ b → cond b (some y) (first_that f ys) ≡ some x → (first_that f ys ≡ some x → (x ∈ ys) × (f x ≡ true)) → (x ∈ (y ∷ ys)) × (f x ≡ true)
    go true e q ih = let same : x ≡ y = cc in (Memᴰ.head same, ap f same ∙ e)
    go false e q ih = let r = ih q in (Memᴰ.tail r.0, r.1)

-- where every element fails there is none
pub none_first {ℓ} : {A : Type ℓ} (f : A → Bool) (xs : List A) → ((x : A) → x ∈ xs → f x ≡ false) → first_that f xs ≡ none
unfolding first_that
none_first f [] each = refl
none_first f (y ∷ ys) each = rw (each y (Memᴰ.head refl)) (none_first f ys (λ x m. each x (Memᴰ.tail m)))

-- the first that passes two tests is, of those that pass the one, the first that passes the other
pub first_filtered {ℓ} : {A : Type ℓ} (f h : A → Bool) (xs : List A) → first_that (λ x. f x && h x) xs ≡ first_that h (filter f xs)
unfolding first_that filter
first_filtered f h [] = refl
first_filtered f h (x ∷ xs) = go (f x) (first_filtered f h xs)
  where
    go : (b : Bool) → first_that (λ y. f y && h y) xs ≡ first_that h (filter f xs)
        → cond (b && h x) (some x) (first_that (λ y. f y && h y) xs) ≡ first_that h (cond b (x ∷ filter f xs) (filter f xs))
    go true ih = ap (λ o. cond (h x) (some x) o) ih
    go false ih = ih

-- those that fail may be passed over
pub first_past {ℓ} : {A : Type ℓ} (f : A → Bool) (xs ys : List A) → ((x : A) → x ∈ xs → f x ≡ false) → first_that f (xs ++ ys) ≡ first_that f ys
unfolding first_that
first_past f [] ys fail = refl
first_past f (x ∷ xs) ys fail = rw (fail x (Memᴰ.head refl)) (first_past f xs ys (λ y m. fail y (Memᴰ.tail m)))

-- of rising numbers the first that passes is the lowest that does
pub first_lowest : (f : ℕ → Bool) {xs : List ℕ} {x : ℕ} → InOrder.Rising xs → first_that f xs ≡ some x → (y : ℕ) → y ∈ xs → f y ≡ true → x ≤ y
unfolding first_that
first_lowest f InOrder.none q y m t = absurd (Memᴰ.not-nil m)
first_lowest f {x = x} (InOrder.next {x = z} {xs = zs} above rest) q y m t = go (f z) refl q m (λ r n. first_lowest f rest r y n t)
  where
    go : (b : Bool) → f z ≡ b → cond b (some z) (first_that f zs) ≡ some x → y ∈ (z ∷ zs) → (first_that f zs ≡ some x → y ∈ zs → x ≤ y) → x ≤ y
    go true e q (Memᴰ.head s) ih = let same : z ≡ x = cc in omega arith
    go true e q (Memᴰ.tail n) ih = let same : z ≡ x = cc in omega (arith, above y n)
    go false e q (Memᴰ.head s) ih = absurd (true≢false (sym t ∙ ap f s ∙ e))
    go false e q (Memᴰ.tail n) ih = ih q n
