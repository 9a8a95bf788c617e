-- Words on lists of any element: which pass a test, sums, the largest.
-- Assumes nothing.
use Rattle.std.specs.Prelude.{ℕ, ◌+◌, max, Bool, true, false, cond, not, ◌&&◌, ◌||◌, List, [], ◌∷◌, ◌++◌, eqb}
use Rattle.std.proofs.Math.Option.{Option, some, none}

module _ {ℓ} {A : Type ℓ} where
  -- the elements that pass the test, in order
  unfoldable pub filter : (A → Bool) → List A → List A
  filter f [] = []
  filter f (x ∷ xs) = cond (f x) (x ∷ filter f xs) (filter f xs)

  -- some element passes
  unfoldable pub any : (A → Bool) → List A → Bool
  any f [] = false
  any f (x ∷ xs) = f x || any f xs

  -- every element passes
  unfoldable pub all : (A → Bool) → List A → Bool
  all f [] = true
  all f (x ∷ xs) = f x && all f xs

  -- the first element that passes
  unfoldable pub first_that : (A → Bool) → List A → Option A
  first_that f [] = none
  first_that f (x ∷ xs) = cond (f x) (some x) (first_that f xs)

  -- the lists, one after the other
  unfoldable pub flat : List (List A) → List A
  flat [] = []
  flat (l ∷ ls) = l ++ flat ls

  -- the sum of a value over the elements
  unfoldable pub sum_of : (A → ℕ) → List A → ℕ
  sum_of f [] = 0
  sum_of f (x ∷ xs) = f x + sum_of f xs

  -- the largest value over the elements, 0 where there are none
  unfoldable pub largest : (A → ℕ) → List A → ℕ
  largest f [] = 0
  largest f (x ∷ xs) = max (f x) (largest f xs)

-- the number stands in the list
unfoldable pub member : ℕ → List ℕ → Bool
member v = any (eqb v)

-- how often the number stands in the list
unfoldable pub times : ℕ → List ℕ → ℕ
times x xs = sum_of (λ y. cond (eqb x y) 1 0) xs

-- the list without that number
unfoldable pub without : ℕ → List ℕ → List ℕ
without v = filter (λ u. not (eqb v u))
