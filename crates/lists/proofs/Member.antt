-- Laws of standing in a list: lists in which nothing stands, filters, maps, flattened lists, and the tests `any` and `member`.
-- Assumes nothing.
use Prim.Native.Nat.{ℕ}
use mathlib.Core.Path.{◌≡◌, refl, sym, ap, ◌∙◌}
use mathlib.Core.Bool.{Bool, true, false, cond, not, ◌||◌, true≢false}
use mathlib.Core.List.Memᴰ
use mathlib.Core.List.{List, [], ◌∷◌, map}
use mathlib.Core.Logic.{◌⊎◌, inl, inr}
use lib.Dec.{eqb}
use borrow.Author.Tests.{eqb-true, eqb-false, eq-eqb, ne_eqb, not-true}
use Rattle.lists.specs.Lists.{filter, any, flat, member, without}
use Rattle.lists.specs.Member.{◌∈◌}

-- A test says yes or no.
pub either : (b : Bool) → (b ≡ true) ⊎ (b ≡ false)
either true = inl refl
either false = inr refl

module _ {ℓ} {A : Type ℓ} where
  -- a list in which nothing stands is empty
  pub empty_list : (xs : List A) → ((x : A) → x ∈ xs → ⊥) → xs ≡ []
  empty_list [] out = refl
  empty_list (x ∷ xs) out = absurd (out x (Memᴰ.head refl))

  -- an element that passes is kept
  pub in_filter : (f : A → Bool) {x : A} {xs : List A} → x ∈ xs → f x ≡ true → x ∈ filter f xs
  unfolding filter
  in_filter f (Memᴰ.head {x = y} {xs = ys} e) t = rw (ap f (sym e) ∙ t) (Memᴰ.head e)
  in_filter f {x} (Memᴰ.tail {x = y} {xs = ys} m) t = go (f y) (in_filter f m t)
    where
      go : (b : Bool) → x ∈ filter f ys → x ∈ cond b (y ∷ filter f ys) (filter f ys)
      go true r = Memᴰ.tail r
      go false r = r

  -- what is kept stood there, and passes
  pub of_filter : (f : A → Bool) {x : A} (xs : List A) → x ∈ filter f xs → (x ∈ xs) × (f x ≡ true)
  unfolding filter
  of_filter f [] m = absurd (Memᴰ.not-nil m)
  of_filter f {x} (y ∷ ys) m = go (f y) refl (λ r. of_filter f ys r) m
    where
      go : (b : Bool) → f y ≡ b → (x ∈ filter f ys → (x ∈ ys) × (f x ≡ true)) → x ∈ cond b (y ∷ filter f ys) (filter f ys) → (x ∈ (y ∷ ys)) × (f x ≡ true)
      go true e ih (Memᴰ.head p) = (Memᴰ.head p, ap f p ∙ e)
      go true e ih (Memᴰ.tail r) = (Memᴰ.tail (ih r).0, (ih r).1)
      go false e ih r = (Memᴰ.tail (ih r).0, (ih r).1)

  -- some element passes, where the test says so, and the other way round
  pub any_found : (f : A → Bool) (xs : List A) → any f xs ≡ true → (x : A) × (x ∈ xs) × (f x ≡ true)
  unfolding any
  any_found f [] t = absurd (mathlib.Core.Bool.false≢true t)
  any_found f (y ∷ ys) t = go (f y) refl (λ r. any_found f ys r) t
    where
      go : (b : Bool) → f y ≡ b → (any f ys ≡ true → (x : A) × (x ∈ ys) × (f x ≡ true)) → (b || any f ys) ≡ true → (x : A) × (x ∈ (y ∷ ys)) × (f x ≡ true)
      go true e ih t = (y, Memᴰ.head refl, e)
      go false e ih t = let r = ih t in (r.0, Memᴰ.tail r.1, r.2)

  pub found_any : (f : A → Bool) {x : A} {xs : List A} → x ∈ xs → f x ≡ true → any f xs ≡ true
  unfolding any
  found_any f (Memᴰ.head e) t = rw (ap f (sym e) ∙ t)
  found_any f (Memᴰ.tail {x = y} {xs = ys} m) t = go (f y) (found_any f m t)
    where
      go : (b : Bool) → any f ys ≡ true → (b || any f ys) ≡ true
      go true r = refl
      go false r = r

  -- an element of one of the lists stands in the flattened list, and the other way round
  pub in_flat : {x : A} {l : List A} {ls : List (List A)} → l ∈ ls → x ∈ l → x ∈ flat ls
  unfolding flat
  in_flat {x} (Memᴰ.head {x = k} {xs = ks} e) m = Memᴰ.append_left (flat ks) (rw e at m)
  in_flat (Memᴰ.tail {x = k} {xs = ks} r) m = Memᴰ.append_right k (in_flat r m)

  pub of_flat : {x : A} (ls : List (List A)) → x ∈ flat ls → (l : List A) × (l ∈ ls) × (x ∈ l)
  unfolding flat
  of_flat [] m = absurd (Memᴰ.not-nil m)
  of_flat {x} (k ∷ ks) m = go (Memᴰ.append_cases k m) (λ r. of_flat ks r)
    where
      go : (x ∈ k) ⊎ (x ∈ flat ks) → (x ∈ flat ks → (l : List A) × (l ∈ ks) × (x ∈ l)) → (l : List A) × (l ∈ (k ∷ ks)) × (x ∈ l)
      go (inl r) ih = (k, Memᴰ.head refl, r)
      go (inr r) ih = let s = ih r in (s.0, Memᴰ.tail s.1, s.2)

module _ {ℓ κ} {A : Type ℓ} {B : Type κ} (f : A → B) where
  -- the image of an element stands in the mapped list, and what stands there is an image
  pub in_map : {x : A} {xs : List A} → x ∈ xs → f x ∈ map f xs
  in_map (Memᴰ.head e) = Memᴰ.head (ap f e)
  in_map (Memᴰ.tail m) = Memᴰ.tail (in_map m)

  pub of_map : {y : B} (xs : List A) → y ∈ map f xs → (x : A) × (x ∈ xs) × (y ≡ f x)
  of_map [] m = absurd (Memᴰ.not-nil m)
  of_map (x ∷ xs) (Memᴰ.head e) = (x, Memᴰ.head refl, e)
  of_map (x ∷ xs) (Memᴰ.tail m) = let r = of_map xs m in (r.0, Memᴰ.tail r.1, r.2)

-- the test `member` and the statement agree
pub member_in : (v : ℕ) (xs : List ℕ) → member v xs ≡ true → v ∈ xs
unfolding member
member_in v xs t = let r = any_found (eqb v) xs t in mathlib.Core.List.Memᴰ.cast (eqb-true v r.0 r.2) r.1

pub in_member : {v : ℕ} {xs : List ℕ} → v ∈ xs → member v xs ≡ true
unfolding member
in_member {v} m = found_any (eqb v) m (eq-eqb v v refl)

-- so do its denial and the statement's
pub member_out : (v : ℕ) (xs : List ℕ) → not (member v xs) ≡ true → v ∈ xs → ⊥
member_out v xs t m = true≢false (sym (in_member m) ∙ not-true (member v xs) t)

pub out_member : (v : ℕ) (xs : List ℕ) → (v ∈ xs → ⊥) → not (member v xs) ≡ true
out_member v xs out = go (either (member v xs))
  where
    go : (member v xs ≡ true) ⊎ (member v xs ≡ false) → not (member v xs) ≡ true
    go (inl t) = absurd (out (member_in v xs t))
    go (inr t) = rw t

-- what stands in a list without v stands in the list and is not v, and the other way round
pub of_without : (v : ℕ) {x : ℕ} (xs : List ℕ) → x ∈ without v xs → (x ∈ xs) × (v ≡ x → ⊥)
unfolding without
of_without v {x} xs m = let r = of_filter (λ u. not (eqb v u)) xs m in (r.0, eqb-false v x (not-true (eqb v x) r.1))

pub in_without : (v : ℕ) {x : ℕ} {xs : List ℕ} → x ∈ xs → (v ≡ x → ⊥) → x ∈ without v xs
unfolding without
in_without v {x} m n = in_filter (λ u. not (eqb v u)) m (rw (ne_eqb v x n))
