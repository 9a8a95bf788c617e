-- How long segments are: each by its two bounds, and those of different numbers together no longer than the elements that all take up.
-- Assumes nothing.
use Prim.Native.Nat.{ℕ, zero, suc, ◌+◌, ◌-◌, ◌≤◌, ◌<◌}
use mathlib.Core.Path.{◌≡◌, ap, ◌∙◌}
use mathlib.Core.List.{List}
use native.Mathlib.Numerals.{add-one}
use native.Mathlib.Omega.{arith}
use lib.ListN.{length, take, drop, get_or}
use lib.Seq.{slice, take-add, drop_at, length-take-le, length-slice}
use Rattle.lists.specs.Count.{from, below}
use Rattle.lists.specs.Lists.{sum_of}
use Rattle.lists.specs.Member.{◌∈◌}
use Rattle.lists.specs.Segments.{segment, Bounded}
use Rattle.lists.proofs.Below.{in_below}
use Rattle.lists.proofs.InOrder.{Once}
use Rattle.lists.proofs.Sums.{sum_within}

module _ {A : Type 0} where
  -- the elements from one place up to another, as code takes them
  pub slice_taken : (a b : ℕ) (xs : List A) → a ≤ b → b ≤ length xs → slice a b xs ≡ take (b - a) (drop a xs)
  slice_taken a b xs h k =
      let sum : b ≡ a + (b - a) = omega arith in
      ap (λ n. drop a (take n xs)) sum
      ∙ ap (drop a) (take-add a (b - a) xs)
      ∙ drop_at (take a xs) (take (b - a) (drop a xs)) a (length-take-le a xs (omega arith))

  module _ (bounds : List ℕ) (xs : List A) where
    -- a segment is as long as its bounds are apart
    pub segment_length : (i : ℕ) → get_or bounds (i + 1) 0 ≤ length xs → length (segment bounds xs i) ≡ get_or bounds (i + 1) 0 - get_or bounds i 0
    unfolding segment
    segment_length i h = length-slice (get_or bounds i 0) (get_or bounds (i + 1) 0) xs h

    abbrev sizes : List ℕ → ℕ
    sizes chosen = sum_of (λ i. length (segment bounds xs i)) chosen

    module _ {k used : ℕ} (b : Bounded bounds k used) (inside : used ≤ length xs) where
      -- a run of segments takes up the elements from its first bound to its last
      run_sizes : (a n : ℕ) → a + n ≤ k → get_or bounds a 0 + sizes (from a n) ≡ get_or bounds (a + n) 0
      unfolding from sum_of
      run_sizes a zero h = let none : a + 0 ≡ a = omega arith in rw none (omega arith)
      run_sizes a (suc n) h =
          let next : suc a + n ≡ a + suc n = omega arith in
          let later : get_or bounds (suc a) 0 + sizes (from (suc a) n) ≡ get_or bounds (a + suc n) 0 = rw next at (run_sizes (suc a) n (omega arith)) in
          let size : length (segment bounds xs a) ≡ get_or bounds (suc a) 0 - get_or bounds a 0
          = rw add-one at (segment_length a (omega (arith, b.within (a + 1) (omega arith)))) in
          let rises : get_or bounds a 0 ≤ get_or bounds (suc a) 0 = rw add-one at (b.rising a (omega arith)) in
          omega arith

      -- all of them
      pub all_sizes : get_or bounds 0 0 + sizes (below k) ≡ used
      unfolding below
      all_sizes = let first : 0 + k ≡ k = omega arith in run_sizes 0 k (omega arith) ∙ ap (λ i. get_or bounds i 0) first ∙ b.last

      -- segments of different numbers
      pub chosen_sizes : (chosen : List ℕ) → Once chosen → ((c : ℕ) → c ∈ chosen → c < k) → sizes chosen ≤ used
      chosen_sizes chosen once below_k =
          omega (arith, all_sizes, sum_within (λ i. length (segment bounds xs i)) once (λ c m. in_below k (below_k c m)))
