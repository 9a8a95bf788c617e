-- Sums over what stands at each place of a list, over one number of a list without repeats, and over numbers that are dealt to places, each to
-- one.
-- Assumes nothing.
use Prim.Native.Nat.{ℕ, ◌+◌, ◌<◌}
use mathlib.Core.Path.{◌≡◌, refl, sym, ap, ◌∙◌}
use mathlib.Core.Bool.{Bool, true, false, cond}
use mathlib.Core.List.Memᴰ
use mathlib.Core.List.{List, [], ◌∷◌}
use native.Mathlib.Omega.{arith}
use lib.Dec.{eqb}
use lib.ListN.{length, get_or}
use borrow.Author.Tests.{eq-eqb, ne_eqb}
use Rattle.lists.specs.Count.{below}
use Rattle.lists.specs.Lists.{filter, sum_of}
use Rattle.lists.specs.Member.{◌∈◌}
use Rattle.lists.specs.InOrder.{Once, none, next}
use Rattle.lists.proofs.Below.{in_below, below_rising}
use Rattle.lists.proofs.InOrder.{rising_once}
use Rattle.lists.proofs.Places.{map_at_places}
use Rattle.lists.proofs.SumsAlike.{sum_same, sum_plus, sum_zero, sum_of_map}

-- A sum over a list is the sum over what stands at its places.
pub sum_places : {A : Type 0} (f : A → ℕ) (d : A) (xs : List A) → sum_of (λ i. f (get_or xs i d)) (below (length xs)) ≡ sum_of f xs
sum_places f d xs =
    sym (sum_of_map (λ n. n) (λ i. f (get_or xs i d)) (below (length xs))) ∙ ap (sum_of (λ n. n)) (map_at_places f d xs) ∙ sum_of_map (λ n. n) f xs

-- A value that one number of a list without repeats adds, and no other.
pub sum_alone : (w x : ℕ) {xs : List ℕ} → Once xs → x ∈ xs → sum_of (λ y. cond (eqb x y) w 0) xs ≡ w
unfolding sum_of
sum_alone w x none x4 = elim x4 [ ]
sum_alone w x (next {x = y} {xs = ys} others rest) (Memᴰ.head q) =
    let none_later : sum_of (λ z. cond (eqb x z) w 0) ys ≡ 0 = sum_zero (λ z. cond (eqb x z) w 0) ys (λ z m. rw (ne_eqb x z (λ p. others z m (sym q ∙ p)))) in
    rw (eq-eqb x y q, none_later) (omega arith)
sum_alone w x (next {x = y} {xs = ys} others rest) (Memᴰ.tail m) = rw (ne_eqb x y (λ p. others x m (sym p))) (omega (arith, sum_alone w x rest m))

-- Numbers are dealt to places below n, each to one: summed up place by place, they sum to what they sum to.
pub sum_dealt : (w place : ℕ → ℕ) (n : ℕ) (is : List ℕ) → ((i : ℕ) → i ∈ is → place i < n)
    → sum_of (λ j. sum_of w (filter (λ i. eqb (place i) j) is)) (below n) ≡ sum_of w is
unfolding sum_of filter
sum_dealt w place n [] inside = sum_zero (λ _. 0) (below n) (λ j m. refl)
sum_dealt w place n (i ∷ is) inside =
    omega (
      arith,
      sum_same (λ j. sum_of w (filter (λ k. eqb (place k) j) (i ∷ is))) (λ j. cond (eqb (place i) j) (w i) 0 + sum_of w (filter (λ k. eqb (place k) j) is)) (below n) (λ j m. one j (eqb (place i) j)),
      sum_plus (λ j. cond (eqb (place i) j) (w i) 0) (λ j. sum_of w (filter (λ k. eqb (place k) j) is)) (below n),
      sum_alone (w i) (place i) (rising_once (below_rising n)) (in_below n (inside i (Memᴰ.head refl))),
      sum_dealt w place n is (λ k m. inside k (Memᴰ.tail m)),
    )
  where
    one : (j : ℕ) (b : Bool) → sum_of w (cond b (i ∷ filter (λ k. eqb (place k) j) is) (filter (λ k. eqb (place k) j) is)) ≡ cond b (w i) 0 + sum_of w (filter (λ k. eqb (place k) j) is)
    one j true = refl
    one j false = omega arith
