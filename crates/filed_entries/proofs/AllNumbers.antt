-- A test of all numbers of a range, one by one from the first, is that of the numbers below its end. Tests that agree on each of these
-- agree on all.
-- Assumes nothing.
use Prim.Native.Nat.{ℕ, zero, suc, ◌<◌}
use mathlib.Core.Path.{◌≡◌, refl, sym, ap, ◌∙◌}
use mathlib.Core.Bool.{Bool, ◌&&◌}
use native.Mathlib.Numerals.{add-one}
use Rattle.std.specs.List.{list_all, range_with_len}
use Rattle.lists.specs.Count.{from, below}
use Rattle.lists.specs.Lists.{all}
use Rattle.lists.proofs.AllBelow.{all_below, each_below}
use Rattle.lists.proofs.SameYes.{same_test}

module _ (f : ℕ → Bool) where
  all_from : (a n : ℕ) → list_all f (range_with_len a n) ≡ all f (from a n)
  unfolding all from
  all_from a zero = refl
  all_from a (suc n) = ap (λ t. f a && t) (rw add-one (all_from (suc a) n))

  pub all_range : (n : ℕ) → list_all f (range_with_len 0 n) ≡ all f (below n)
  unfolding below
  all_range n = all_from 0 n

pub all_alike : (f g : ℕ → Bool) (n : ℕ) → ((k : ℕ) → k < n → f k ≡ g k) → all f (below n) ≡ all g (below n)
all_alike f g n same =
    same_test (all f (below n)) (all g (below n))
    (λ t. all_below g n (λ k h. sym (same k h) ∙ each_below f n t k h))
    (λ t. all_below f n (λ k h. same k h ∙ each_below g n t k h))
