-- A test that passes fewer numbers below a bound counts less: the pigeonhole, with each number sent to itself.
-- Assumes nothing.
use Prim.Native.Nat.{ℕ, zero, suc, ◌≤◌, ◌<◌}
use mathlib.Core.Path.{◌≡◌, refl, sym, ap, ◌∙◌}
use mathlib.Core.Bool.{Bool, true, false, true≢false, false≢true}
use native.Mathlib.Omega.{arith}
use Rattle.lists.specs.Count.{count}
use Rattle.lists.proofs.Pigeonhole.{count_all, count_into, count_into_missing}

-- Where one test passes only what another passes, it passes no more.
pub count_no_more : (n : ℕ) (f h : ℕ → Bool) → ((x : ℕ) → x < n → f x ≡ true → h x ≡ true) → count n f ≤ count n h
count_no_more n f h sub = count_into f (λ x. x) n n h (λ x l p. (l, sub x l p)) (λ _ _ _ _ _ _ e. e)

-- Where it misses a number besides, it passes fewer.
pub count_fewer : (n : ℕ) (f h : ℕ → Bool) → ((x : ℕ) → x < n → f x ≡ true → h x ≡ true) → (c : ℕ) → c < n → f c ≡ false → h c ≡ true → count n f < count n h
count_fewer n f h sub c l p q =
    count_into_missing f (λ x. x) n n h (λ x l p. (l, sub x l p)) (λ _ _ _ _ _ _ e. e) c l q (λ x _ r e. true≢false (sym r ∙ ap f e ∙ p))

-- No more numbers below n pass than there are.
pub count_bounded : (n : ℕ) (f : ℕ → Bool) → count n f ≤ n
count_bounded n f = omega (arith, count_all n, count_no_more n f (λ _. true) (λ _ _ _. refl))

-- Where no number passes, none is counted.
pub count_none : (n : ℕ) → count n (λ _. false) ≡ 0
unfolding count
count_none zero = refl
count_none (suc n) = omega (arith, count_none n)

-- A number that passes counts.
pub count_some : (n : ℕ) (f : ℕ → Bool) (c : ℕ) → c < n → f c ≡ true → 1 ≤ count n f
count_some n f c l p = omega (arith, count_fewer n (λ _. false) f (λ _ _ q. absurd (false≢true q)) c l refl p)

-- Where no two numbers pass, at most one does.
pub count_alone : (n : ℕ) (f : ℕ → Bool) → ((j k : ℕ) → j < n → k < n → f j ≡ true → f k ≡ true → j ≡ k) → count n f ≤ 1
unfolding count
count_alone n f alone = count_into f (λ _. 0) n 1 (λ _. true) (λ k h is. (omega arith, refl)) (λ j k hj hk pj pk _. alone j k hj hk pj pk)
