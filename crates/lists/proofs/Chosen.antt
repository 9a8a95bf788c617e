-- Lists made for the chosen ones of the numbers below a bound, and joined: what stands there, and sums over it. The chosen numbers are as many
-- as `count` says.
-- Assumes nothing.
use Prim.Native.Nat.{ℕ, zero, suc, ◌*◌, ◌≤◌, ◌<◌}
use mathlib.Core.Path.{◌≡◌, refl, ap, ◌∙◌}
use mathlib.Core.Bool.{Bool, true, false, cond}
use mathlib.Core.List.{List, [], ◌∷◌, ◌++◌, map}
use native.Mathlib.Nat.{zero-add}
use native.Mathlib.Omega.{arith}
use lib.ListN.{length, length-append}
use Rattle.lists.specs.Count.{count, from, below}
use Rattle.lists.specs.Lists.{filter, flat, sum_of}
use Rattle.lists.specs.Member.{◌∈◌}
use Rattle.lists.proofs.Below.{in_below, of_below}
use Rattle.lists.proofs.Bounds.{sum_most, sum_least}
use Rattle.lists.proofs.Filters.{filter_append}
use Rattle.lists.proofs.FlatMap.{in_flat_map, of_flat_map}
use Rattle.lists.proofs.Member.{in_filter, of_filter}
use Rattle.lists.proofs.Numbered.{from_snoc}
use Rattle.lists.proofs.Sums.{sum_split}
use Rattle.lists.proofs.SumsAlike.{sum_flat_map}

-- a sum over lists made for each element is no more where only some elements are chosen
pub sum_chosen {ℓ κ} : {A : Type ℓ} {B : Type κ} (w : B → ℕ) (f : A → List B) (t : A → Bool) (xs : List A) → sum_of w (flat (map f (filter t xs))) ≤ sum_of w (flat (map f xs))
sum_chosen w f t xs = omega (arith, sum_flat_map w f xs, sum_flat_map w f (filter t xs), sum_split (λ x. sum_of w (f x)) t xs)

-- the numbers below n that pass a test are as many as `count` says
one_chosen : (b : Bool) (k : ℕ) → length (cond b (k ∷ []) []) ≡ cond b 1 0
one_chosen true k = refl
one_chosen false k = refl

last_chosen : (t : ℕ → Bool) (k : ℕ) → length (filter t (k ∷ [])) ≡ cond (t k) 1 0
unfolding filter
last_chosen t k = one_chosen (t k) k

pub chosen_count : (t : ℕ → Bool) (n : ℕ) → length (filter t (below n)) ≡ count n t
unfolding below from filter count
chosen_count t zero = refl
chosen_count t (suc k) =
    let s : filter t (from 0 (suc k)) ≡ filter t (from 0 k) ++ filter t (k ∷ []) =
    ap (filter t) (from_snoc 0 k ∙ ap (λ (j : ℕ). from 0 k ++ (j ∷ [])) (zero-add k)) ∙ filter_append t (from 0 k) (k ∷ []) in
    omega (arith, ap length s, length-append (filter t (from 0 k)) (filter t (k ∷ [])), last_chosen t k, chosen_count t k)

module _ {ℓ} {B : Type ℓ} (f : ℕ → List B) (t : ℕ → Bool) (n : ℕ) where
  -- the lists of the numbers below n that pass the test, joined
  abbrev pub chosen : List B
  chosen = flat (map f (filter t (below n)))

  -- what stands there stands in the list of such a number, and the other way round
  pub in_chosen : {y : B} (i : ℕ) → i < n → t i ≡ true → y ∈ f i → y ∈ chosen
  in_chosen i h is m = in_flat_map f (in_filter t (in_below n h) is) m

  pub of_chosen : {y : B} → y ∈ chosen → (i : ℕ) × (i < n) × (t i ≡ true) × (y ∈ f i)
  of_chosen m =
      let (i, k, j) = of_flat_map f (filter t (below n)) m in
      let (b, is) = of_filter t (below n) k in
      (i, of_below n b, is, j)

  module _ (w : B → ℕ) (b : ℕ) where
    passed {κ} : {P : ℕ → Type κ} → ((i : ℕ) → i < n → t i ≡ true → P i) → (i : ℕ) → i ∈ filter t (below n) → P i
    passed each i m = let (k, is) = of_filter t (below n) m in each i (of_below n k) is

    -- where each list sums to at least b, they sum to at least b for each chosen number
    pub chosen_least : ((i : ℕ) → i < n → t i ≡ true → b ≤ sum_of w (f i)) → count n t * b ≤ sum_of w chosen
    chosen_least each = rw (sum_flat_map w f (filter t (below n)), ← chosen_count t n) (sum_least (λ i. sum_of w (f i)) b (filter t (below n)) (passed each))

    -- where each sums to at most b, they sum to at most b for each
    pub chosen_most : ((i : ℕ) → i < n → t i ≡ true → sum_of w (f i) ≤ b) → sum_of w chosen ≤ count n t * b
    chosen_most each = rw (sum_flat_map w f (filter t (below n)), ← chosen_count t n) (sum_most (λ i. sum_of w (f i)) b (filter t (below n)) (passed each))
