-- Counting by sending: where numbers that pass one test are sent, all apart, to numbers that pass another, the first are
-- no more than the second, and fewer where one of the second is missed.
-- Assumes nothing.
use Prim.Native.Nat.{ℕ, zero, suc, ◌≤◌, ◌<◌}
use mathlib.Core.Path.{◌≡◌, ◌∙◌, refl, sym}
use mathlib.Core.Logic.{⊎_elim}
use mathlib.Core.Bool.{Bool, true, false, not, ◌&&◌, and-true, and-false}
use native.Mathlib.Omega.{arith}
use lib.Dec.{eqb}
use borrow.Author.Tests.{ne_eqb, eq-eqb, eqb-false, not-true}
use Rattle.lists.specs.Count.{count}
use Rattle.lists.proofs.Member.{either}
use Rattle.lists.proofs.Every.{first_true, second_true}
use Rattle.lists.proofs.AfterStore.{at_or_not}

-- The test f, passed by no k that is z.
unfoldable pub but : ℕ → (ℕ → Bool) → ℕ → Bool
but z f k = f k && not (eqb k z)

-- At any number but z the test is the same.
pub but_other : (f : ℕ → Bool) (z k : ℕ) → (k ≡ z → ⊥) → but z f k ≡ f k
unfolding but
but_other f z k away = rw (ne_eqb k z away) (and-true (f k))

-- At z it is not passed.
pub but_at : (f : ℕ → Bool) (z : ℕ) → but z f z ≡ false
unfolding but
but_at f z = rw (eq-eqb z z refl) (and-false (f z))

-- What passes passed before, and is not z.
pub of_but : (f : ℕ → Bool) (z k : ℕ) → but z f k ≡ true → (f k ≡ true) × (k ≡ z → ⊥)
unfolding but
of_but f z k t = (first_true (f k) (not (eqb k z)) t, eqb-false k z (not-true (eqb k z) (second_true (f k) (not (eqb k z)) t)))

-- Where z did not pass, nothing changes.
pub but_absent : (f : ℕ → Bool) (z k : ℕ) → f z ≡ false → but z f k ≡ f k
but_absent f z k out = at_or_not (λ x. but z f x ≡ f x) z k (but_at f z ∙ sym out) (but_other f z k)

-- Tests that agree below n count the same.
pub count_same : (n : ℕ) (f g : ℕ → Bool) → ((k : ℕ) → k < n → f k ≡ g k) → count n f ≡ count n g
unfolding count
count_same zero f g same = refl
count_same (suc n) f g same = rw (same n (omega arith), count_same n f g (λ k h. same k (omega arith)))

-- Without one that passes, one fewer.
pub count_but : (n : ℕ) (f : ℕ → Bool) (z : ℕ) → z < n → f z ≡ true → count n f ≡ suc (count n (but z f))
unfolding count
count_but zero f z below pass = absurd (omega arith)
count_but (suc n) f z below pass = at_or_not Claim n z last earlier below pass (count_but n f z)
  where
    Claim : ℕ → Type 0
    Claim k = k < suc n → f k ≡ true → (k < n → f k ≡ true → count n f ≡ suc (count n (but k f))) → count (suc n) f ≡ suc (count (suc n) (but k f))

    last : Claim n
    last _ p _ = rw (p, but_at f n, count_same n (but n f) f (λ k h. but_other f n k (omega arith))) (omega arith)

    earlier : (z ≡ n → ⊥) → Claim z
    earlier away h p rest = rw (but_other f z n (λ e. away (sym e))) (omega (arith, rest (omega arith) p))

-- All numbers below n are n.
pub count_all : (n : ℕ) → count n (λ _. true) ≡ n
unfolding count
count_all zero = refl
count_all (suc n) = omega (arith, count_all n)

module _ (f : ℕ → Bool) (h : ℕ → ℕ) where
  -- Below n, h sends what passes f to numbers below m that pass g.
  abbrev pub Into : ℕ → ℕ → (ℕ → Bool) → Type 0
  Into n m g = (k : ℕ) → k < n → f k ≡ true → (h k < m) × (g (h k) ≡ true)

  -- Below n, h keeps apart what passes f.
  abbrev pub Apart : ℕ → Type 0
  Apart n = (j k : ℕ) → j < n → k < n → f j ≡ true → f k ≡ true → h j ≡ h k → j ≡ k

  -- The pigeonhole: what is sent apart into what passes g is no more than that.
  pub count_into : (n m : ℕ) (g : ℕ → Bool) → Into n m g → Apart n → count n f ≤ count m g
  unfolding count
  count_into zero m g into apart = omega arith
  count_into (suc n) m g into apart = ⊎_elim (sent (count_into n m (but (h n) g))) (skipped (count_into n m g)) (either (f n))
    where
      apart_below : Apart n
      apart_below j k hj hk = apart j k (omega arith) (omega arith)

      skipped : (Into n m g → Apart n → count n f ≤ count m g) → f n ≡ false → count (suc n) f ≤ count m g
      skipped rest e = rw e (omega (arith, rest (λ k l. into k (omega arith)) apart_below))

      into_but : f n ≡ true → Into n m (but (h n) g)
      into_but e k l p = ((into k (omega arith) p).0, but_other g (h n) (h k) (λ q. omega (arith, apart k n (omega arith) (omega arith) p e q)) ∙ (into k (omega arith) p).1)

      sent : (Into n m (but (h n) g) → Apart n → count n f ≤ count m (but (h n) g)) → f n ≡ true → count (suc n) f ≤ count m g
      sent rest e = rw e (omega (arith, count_but m g (h n) (into n (omega arith) e).0 (into n (omega arith) e).1, rest (into_but e) apart_below))

  -- Where one that passes g is missed, it is fewer.
  pub count_into_missing : (n m : ℕ) (g : ℕ → Bool) → Into n m g → Apart n → (z : ℕ) → z < m → g z ≡ true → ((k : ℕ) → k < n → f k ≡ true → h k ≡ z → ⊥) → count n f < count m g
  count_into_missing n m g into apart z below pass missed =
      omega (arith, count_but m g z below pass, count_into n m (but z g) (λ k l p. ((into k l p).0, but_other g z (h k) (missed k l p) ∙ (into k l p).1)) apart)
