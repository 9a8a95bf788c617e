-- Decimal digits: the last one stands behind those of the number's tenth. Each is a digit, the first is no zero, read again they are the
-- number; and how many there are.
-- Assumes nothing.
use Prim.Native.Nat.{ℕ, zero, suc, ◌+◌, ◌-◌, ◌*◌, ◌/◌, ◌%◌, ◌^◌, ◌≤◌, ◌<◌}
use mathlib.Core.Path.{◌≡◌, refl, sym, ap, ◌∙◌}
use mathlib.Core.List.Memᴰ
use mathlib.Core.List.{List, [], ◌∷◌, ◌++◌}
use mathlib.Core.Logic.{◌⊎◌, inl, inr}
use native.Mathlib.Decide.{dec_lt}
use native.Mathlib.Nat.{mod-eq_of_lt, div-lt_iff_lt-mul, pow-suc}
use native.Mathlib.Omega.{arith}
use lib.ListN.{length, get_or, length-append, get_or-append}
use borrow.Author.Tests.{lt-ltb, le-ltb}
use Rattle.lists.specs.Member.{◌∈◌}
use Rattle.reply_text.specs.Lines.{digit, digits_within, digits, read_behind, read_digits}

-- A number below ten is its own digit.
within_last : (k n : ℕ) → n < 10 → digits_within k n ≡ digit n ∷ []
unfolding digits_within
within_last zero n h = rw (mod-eq_of_lt h)
within_last (suc k) n h = rw (lt-ltb n 10 h)

-- Otherwise the last digit stands behind those of the number's tenth.
within_more : (k n : ℕ) → 10 ≤ n → digits_within (suc k) n ≡ digits_within k (n / 10) ++ (digit (n % 10) ∷ [])
unfolding digits_within
within_more k n h = rw (le-ltb n 10 h)

-- Once there are enough divisions, more change nothing.
within_same : (k l n : ℕ) → n ≤ k → n ≤ l → digits_within k n ≡ digits_within l n
within_same zero l n h i = within_last zero n (omega arith) ∙ sym (within_last l n (omega arith))
within_same (suc k) zero n h i = within_last (suc k) n (omega arith) ∙ sym (within_last zero n (omega arith))
within_same (suc k) (suc l) n h i = go (dec_lt n 10) (within_same k l (n / 10) (omega arith) (omega arith))
  where
    go : Dec (n < 10) → digits_within k (n / 10) ≡ digits_within l (n / 10) → digits_within (suc k) n ≡ digits_within (suc l) n
    go (yes p) q = within_last (suc k) n p ∙ sym (within_last (suc l) n p)
    go (no p) q = within_more k n (omega arith) ∙ ap (λ ds. ds ++ (digit (n % 10) ∷ [])) q ∙ sym (within_more l n (omega arith))

pub digits_last : (n : ℕ) → n < 10 → digits n ≡ digit n ∷ []
unfolding digits
digits_last n h = within_last n n h

pub digits_more : (n : ℕ) → 10 ≤ n → digits n ≡ digits (n / 10) ++ (digit (n % 10) ∷ [])
unfolding digits
digits_more zero h = absurd (omega arith)
digits_more (suc k) h = within_more k (suc k) h ∙ ap (λ l. l ++ (digit (suc k % 10) ∷ [])) (within_same k (suc k / 10) (suc k / 10) (omega arith) (omega arith))

-- A number below a power of ten has no more digits than that power has zeros.
pub digits_few : (k n : ℕ) → n < 10 ^ suc k → length (digits n) ≤ suc k
digits_few zero n h = rw (digits_last n h) (omega arith)
digits_few (suc k) n h = go (dec_lt n 10) (digits_few k (n / 10) ((div-lt_iff_lt-mul (omega arith)).1 (rw pow-suc at h)))
  where
    go : Dec (n < 10) → length (digits (n / 10)) ≤ suc k → length (digits n) ≤ suc (suc k)
    go (yes p) q = rw (digits_last n p) (omega arith)
    go (no p) q = rw (digits_more n (omega arith)) (omega (arith, length-append (digits (n / 10)) (digit (n % 10) ∷ [])))

-- Digits read behind a number, one more at the end.
read_more : (n : ℕ) (ds : List ℕ) (d : ℕ) → read_behind n (ds ++ (d ∷ [])) ≡ read_behind n ds * 10 + (d - 48)
unfolding read_behind
read_more n [] d = refl
read_more n (c ∷ ds) d = read_more (n * 10 + (c - 48)) ds d

-- The digits of a number spell it.
read_within : (k n : ℕ) → n ≤ k → read_digits (digits n) ≡ n
unfolding read_digits read_behind
read_within zero n h = rw (digits_last n (omega arith)) (omega arith)
read_within (suc k) n h = go (dec_lt n 10) (read_within k (n / 10) (omega arith))
  where
    go : Dec (n < 10) → read_digits (digits (n / 10)) ≡ n / 10 → read_digits (digits n) ≡ n
    go (yes p) q = rw (digits_last n p) (omega arith)
    go (no p) q = rw (digits_more n (omega arith), read_more 0 (digits (n / 10)) (digit (n % 10))) (omega arith)

pub digits_read : (n : ℕ) → read_digits (digits n) ≡ n
digits_read n = read_within n n (omega arith)

-- Each is the byte of a digit, 48 to 57.
each_within : (k n : ℕ) → n ≤ k → (d : ℕ) → d ∈ digits n → (48 ≤ d) × (d < 58)
each_within zero n h d m = let q = Memᴰ.eq_of_singleton (rw (digits_last n (omega arith)) at m) in (omega arith, omega arith)
each_within (suc k) n h d m = go (dec_lt n 10) (each_within k (n / 10) (omega arith) d)
  where
    go : Dec (n < 10) → (d ∈ digits (n / 10) → (48 ≤ d) × (d < 58)) → (48 ≤ d) × (d < 58)
    go (yes p) rec = let q = Memᴰ.eq_of_singleton (rw (digits_last n p) at m) in (omega arith, omega arith)
    go (no p) rec = either (Memᴰ.append_cases (digits (n / 10)) (rw (digits_more n (omega arith)) at m))
      where
        either : (d ∈ digits (n / 10)) ⊎ (d ∈ digit (n % 10) ∷ []) → (48 ≤ d) × (d < 58)
        either (inl i) = rec i
        either (inr i) = let q = Memᴰ.eq_of_singleton i in (omega arith, omega arith)

pub digits_each : (n d : ℕ) → d ∈ digits n → (48 ≤ d) × (d < 58)
digits_each n d m = each_within n n (omega arith) d m

-- There is at least one, and the first is no zero but for the number 0.
digits_some : (n : ℕ) → 0 < length (digits n)
digits_some n = go (dec_lt n 10)
  where
    go : Dec (n < 10) → 0 < length (digits n)
    go (yes p) = rw (digits_last n p) (omega arith)
    go (no p) = rw (digits_more n (omega arith)) (omega (arith, length-append (digits (n / 10)) (digit (n % 10) ∷ [])))

first_within : (k n : ℕ) → n ≤ k → 0 < n → 48 < get_or (digits n) 0 0
first_within zero n h some = absurd (omega arith)
first_within (suc k) n h some = go (dec_lt n 10) (λ s. first_within k (n / 10) (omega arith) s)
  where
    go : Dec (n < 10) → (0 < n / 10 → 48 < get_or (digits (n / 10)) 0 0) → 48 < get_or (digits n) 0 0
    go (yes p) rec = rw (digits_last n p) (omega arith)
    go (no p) rec = rw (digits_more n (omega arith), get_or-append (digits (n / 10)) (digit (n % 10) ∷ []) 0 0 (digits_some (n / 10))) (rec (omega arith))

pub digits_first : (n : ℕ) → 0 < n → 48 < get_or (digits n) 0 0
digits_first n some = first_within n n (omega arith) some
