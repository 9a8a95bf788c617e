-- Filters: of a list that no element passes, of two lists, of a mapped list, of a list that every element passes.
-- Assumes nothing.
use mathlib.Core.Path.{◌≡◌, refl, ap}
use mathlib.Core.Bool.{Bool, true, false, cond}
use mathlib.Core.List.Memᴰ
use mathlib.Core.List.{List, [], ◌∷◌, ◌++◌, map}
use Rattle.lists.specs.Lists.{filter}
use Rattle.lists.specs.Member.{◌∈◌}

-- a filter that no element passes keeps nothing
pub filter_none {ℓ} : {A : Type ℓ} (f : A → Bool) (xs : List A) → ((x : A) → x ∈ xs → f x ≡ false) → filter f xs ≡ []
unfolding filter
filter_none f [] fails = refl
filter_none f (x ∷ xs) fails = rw (fails x (Memᴰ.head refl)) (filter_none f xs (λ y m. fails y (Memᴰ.tail m)))

-- two lists, one after the other
pub filter_append {ℓ} : {A : Type ℓ} (f : A → Bool) (xs ys : List A) → filter f (xs ++ ys) ≡ filter f xs ++ filter f ys
unfolding filter
filter_append f [] ys = refl
filter_append f (x ∷ xs) ys = go (f x) (filter_append f xs ys)
  where
    go : (b : Bool) → filter f (xs ++ ys) ≡ filter f xs ++ filter f ys
        → cond b (x ∷ filter f (xs ++ ys)) (filter f (xs ++ ys)) ≡ cond b (x ∷ filter f xs) (filter f xs) ++ filter f ys
    go true e = ap (λ l. x ∷ l) e
    go false e = e

-- to filter a mapped list is to map what the test, seen through the map, lets pass
pub filter_of_map {ℓ κ} : {A : Type ℓ} {B : Type κ} (t : B → Bool) (f : A → B) (xs : List A) → filter t (map f xs) ≡ map f (filter (λ x. t (f x)) xs)
unfolding filter
filter_of_map t f [] = refl
filter_of_map t f (x ∷ xs) = go (t (f x)) (filter_of_map t f xs)
  where
    go : (b : Bool) → filter t (map f xs) ≡ map f (filter (λ y. t (f y)) xs)
        → cond b (f x ∷ filter t (map f xs)) (filter t (map f xs)) ≡ map f (cond b (x ∷ filter (λ y. t (f y)) xs) (filter (λ y. t (f y)) xs))
    go true e = ap (λ l. f x ∷ l) e
    go false e = e

-- a filter that every element passes keeps all
pub filter_all {ℓ} : {A : Type ℓ} (f : A → Bool) (xs : List A) → ((x : A) → x ∈ xs → f x ≡ true) → filter f xs ≡ xs
unfolding filter
filter_all f [] each = refl
filter_all f (x ∷ xs) each = rw (each x (Memᴰ.head refl)) (ap (λ l. x ∷ l) (filter_all f xs (λ y m. each y (Memᴰ.tail m))))
