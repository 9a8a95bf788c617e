-- A list from a place on is the element there, then the list from the next place on; so for a segment, for the numbers below a bound,
-- for the elements that pass a test, and for the test whether one does.
-- Assumes nothing.
use Prim.Native.Nat.{ℕ, zero, suc, ◌+◌, ◌-◌, ◌≤◌, ◌<◌}
use mathlib.Core.Path.{◌≡◌, sym, ap, ◌∙◌}
use mathlib.Core.Bool.{Bool, true, false, ◌||◌}
use mathlib.Core.List.{List, [], ◌∷◌}
use native.Mathlib.Nat.{sub-zero}
use native.Mathlib.Numerals.{add-one}
use native.Mathlib.Omega.{arith}
use lib.ListN.{length, get_or, drop, drop_of_length-le}
use lib.Seq.{slice, slice-cons}
use Rattle.lists.specs.Count.{any_below, from, below}
use Rattle.lists.specs.Lists.{filter, any}
use Rattle.lists.proofs.TakeDrop.{drop_more}

module _ (list : List ℕ) (i : ℕ) where
  -- of a list: the element at the place, and what is left from the next place on
  pub rest_next : i < length list → drop i list ≡ get_or list i 0 ∷ drop (i + 1) list
  rest_next h = drop_more 0 list i h

  pub rest_none : length list ≤ i → drop i list ≡ []
  rest_none h = drop_of_length-le list h

  -- of a segment that ends at a place of the list
  pub slice_next : (to : ℕ) → i < to → to ≤ length list → slice i to list ≡ get_or list i 0 ∷ slice (i + 1) to list
  slice_next to more all = slice-cons i to list 0 more all ∙ ap (λ k. get_or list i 0 ∷ slice k to list) (sym (add-one i))

-- of the numbers below n: those from v on
abbrev pub below_from : ℕ → ℕ → List ℕ
below_from n v = from v (n - v)

module _ (n : ℕ) where
  pub numbers_all : below n ≡ below_from n 0
  unfolding below
  numbers_all = rw sub-zero

  pub numbers_next : (v : ℕ) → v < n → below_from n v ≡ v ∷ below_from n (v + 1)
  unfolding from
  numbers_next v h = let one_more : n - v ≡ suc (n - suc v) = omega arith in rw (add-one, one_more)

  pub numbers_none : (v : ℕ) → n ≤ v → below_from n v ≡ []
  unfolding from
  numbers_none v h = let none_left : n - v ≡ 0 = omega arith in rw none_left

-- of those that pass a test
module _ {ℓ} {A : Type ℓ} (f : A → Bool) {x : A} {rest other : List A} (q : rest ≡ x ∷ other) where
  pub filter_taken : f x ≡ true → filter f rest ≡ x ∷ filter f other
  unfolding filter
  filter_taken t = rw (q, t)

  pub filter_passed : f x ≡ false → filter f rest ≡ filter f other
  unfolding filter
  filter_passed t = rw (q, t)

-- one from the place on passes: the one there, or one from the next place on
module _ (f : ℕ → Bool) (list : List ℕ) (i : ℕ) where
  pub any_here : i < length list → f (get_or list i 0) ≡ true → any f (drop i list) ≡ true
  unfolding any
  any_here h t = rw (rest_next list i h, t)

  pub any_later : i < length list → f (get_or list i 0) ≡ false → any f (drop i list) ≡ any f (drop (i + 1) list)
  unfolding any
  any_later h t = rw (rest_next list i h, t)

  pub any_nowhere : length list ≤ i → any f (drop i list) ≡ false
  unfolding any
  any_nowhere h = rw (rest_none list i h)

-- the tests of the numbers below u, one by one from the last
pub any_below_next : (f : ℕ → Bool) (u : ℕ) → 0 < u → any_below u f ≡ (f (u - 1) || any_below (u - 1) f)
unfolding any_below
any_below_next f zero h = absurd (omega arith)
any_below_next f (suc u) h = let back : suc u - 1 ≡ u = omega arith in rw back
