-- Sums over the numbers below a bound: one number more, and values that are the same but at one number or at two. Sums over a filtered list.
-- Assumes nothing.
use Prim.Native.Nat.{ℕ, zero, suc, ◌+◌, ◌<◌}
use mathlib.Core.Path.{◌≡◌, refl, sym, ap, ◌∙◌}
use mathlib.Core.Bool.{Bool, true, false, cond}
use mathlib.Core.List.{List, [], ◌∷◌, ◌++◌}
use mathlib.Core.Logic.{dite}
use native.Mathlib.Decide.{ℕ_discrete}
use native.Mathlib.Nat.{zero-add}
use native.Mathlib.Numerals.{add-one}
use native.Mathlib.Omega.{arith}
use lib.Dec.{eqb}
use borrow.Author.Tests.{eq-eqb, ne_eqb}
use Rattle.lists.specs.Count.{count, from, below}
use Rattle.lists.specs.Lists.{filter, sum_of}
use Rattle.lists.proofs.AfterStore.{at_or_not}
use Rattle.lists.proofs.Below.{of_below}
use Rattle.lists.proofs.Chosen.{chosen_count}
use Rattle.lists.proofs.Numbered.{from_snoc}
use Rattle.lists.proofs.OneMore.{sum_more}
use Rattle.lists.proofs.SumsAlike.{sum_same, length_filter}

-- One number more.
sum_suc : (n : ℕ) (f : ℕ → ℕ) → sum_of f (below (suc n)) ≡ f n + sum_of f (below n)
unfolding below
sum_suc n f = omega (arith, ap (sum_of f) (from_snoc 0 n ∙ ap (λ (k : ℕ). from 0 n ++ (k ∷ [])) (zero-add n)), sum_more f (from 0 n) n)

pub sum_below_more : (n : ℕ) (f : ℕ → ℕ) → sum_of f (below (n + 1)) ≡ f n + sum_of f (below n)
sum_below_more n f = rw add-one (sum_suc n f)

-- Values that are the same but at one number,
pub sum_below_but : (n : ℕ) (f h : ℕ → ℕ) (a : ℕ) → a < n → ((v : ℕ) → v < n → (v ≡ a → ⊥) → f v ≡ h v)
    → sum_of f (below n) + h a ≡ sum_of h (below n) + f a
sum_below_but zero f h a l each = absurd (omega arith)
sum_below_but (suc n) f h a l each =
    dite (ℕ_discrete a n)
    (λ e.
    let others : sum_of f (below n) ≡ sum_of h (below n) = sum_same f h (below n) (λ v m. let k = of_below n m in each v (omega arith) (λ q. omega (arith, e))) in
    omega (arith, ap f e, ap h e, others, sum_suc n f, sum_suc n h))
    (λ away.
    omega (
      arith,
      each n (omega arith) (λ q. away (sym q)),
      sum_below_but n f h a (omega arith) (λ v k. each v (omega arith)),
      sum_suc n f,
      sum_suc n h,
    ))

-- and at two, which may be one where the values are the same.
module _ (n : ℕ) (f h : ℕ → ℕ) (a b : ℕ) (la : a < n) (lb : b < n) (each : (v : ℕ) → v < n → (v ≡ a → ⊥) → (v ≡ b → ⊥) → f v ≡ h v) where
  mid : ℕ → ℕ
  mid v = cond (eqb v a) (f v) (h v)

  mid_at : mid a ≡ f a
  unfolding mid
  mid_at = rw (eq-eqb a a refl)

  mid_other : (v : ℕ) → (v ≡ a → ⊥) → mid v ≡ h v
  unfolding mid
  mid_other v away = rw (ne_eqb v a away)

  mid_but : (v : ℕ) → v < n → (v ≡ b → ⊥) → f v ≡ mid v
  mid_but v l away = at_or_not (λ k. f k ≡ mid k) a v (sym mid_at) (λ other. each v l other away ∙ sym (mid_other v other))

  pub sum_below_two : (a ≡ b → f a ≡ h a) → sum_of f (below n) + (h a + h b) ≡ sum_of h (below n) + (f a + f b)
  sum_below_two same =
      dite (ℕ_discrete a b)
      (λ e. omega (arith, ap f e, ap h e, same e, sum_below_but n f h a la (λ v l away. each v l away (λ q. away (q ∙ sym e)))))
      (λ differ.
      omega (
        arith,
        mid_at,
        mid_other b (λ q. differ (sym q)),
        sum_below_but n f mid b lb mid_but,
        sum_below_but n mid h a la (λ v l away. mid_other v away),
      ))

-- The numbers that pass a test are as many as the sum of one for each.
pub sum_below_count : (n : ℕ) (t : ℕ → Bool) → count n t ≡ sum_of (λ v. cond (t v) 1 0) (below n)
sum_below_count n t = sym (chosen_count t n) ∙ length_filter t (below n)

-- The sum over the numbers of a list that pass a test.
module _ (t : ℕ → Bool) (f : ℕ → ℕ) where
  abbrev passed : ℕ → ℕ
  passed v = cond (t v) (f v) 0

  pub sum_filter_next : (a : ℕ) (xs : List ℕ) → sum_of f (filter t (a ∷ xs)) ≡ passed a + sum_of f (filter t xs)
  unfolding sum_of filter
  sum_filter_next a xs = go (t a)
    where
      go : (b : Bool) → sum_of f (cond b (a ∷ filter t xs) (filter t xs)) ≡ cond b (f a) 0 + sum_of f (filter t xs)
      go true = refl
      go false = omega arith

  pub sum_filter : (xs : List ℕ) → sum_of f (filter t xs) ≡ sum_of passed xs
  unfolding sum_of filter
  sum_filter [] = refl
  sum_filter (a ∷ xs) = omega (arith, sum_filter_next a xs, sum_filter xs)
