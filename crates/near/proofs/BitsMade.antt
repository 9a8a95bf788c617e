-- A word of bits, made from the last bit to the first: twice the word, with one bit more, has that bit first and the others behind it.
-- Assumes nothing.
use Prim.Native.Nat.{ℕ, zero, suc, ◌+◌, ◌*◌, ◌-◌, ◌/◌, ◌%◌, ◌^◌, ◌≤◌, ◌<◌}
use mathlib.Core.Path.{◌≡◌, refl, sym, ap, ◌∙◌}
use mathlib.Core.Bool.{Bool, true, false, cond}
use native.Mathlib.Nat.{div-one, pow-succ', pow-le-pow_right, suc-mul, zero-mul, mul_left_comm, mul-le-mul_right, div-div-eq-div-mul}
use native.Mathlib.Omega.{arith}
use borrow.Author.Tests.{ltb-true, ltb-false}
use lib.Dec.{eqb, ltb}
use lib.Pow.{pow_pos, pow-add, shl_exact}
use Rattle.lists.proofs.OneOrZero.{bit_says, bit_small}
use Rattle.near.specs.Bits.{bit_at}
use Rattle.near.specs.Vertices.{with_run}

bit_first : (b : ℕ) → bit_at 0 b ≡ eqb (b % 2) 1
unfolding bit_at
bit_first b = ap (λ x. eqb (x % 2) 1) (div-one b)

-- Bit j + 1 of a word is bit j of its half.
bit_later : (j b : ℕ) → bit_at (suc j) b ≡ bit_at j (b / 2)
unfolding bit_at
bit_later j b = ap (λ x. eqb (x % 2) 1) (ap (λ p. b / p) (pow-succ' 2 j) ∙ sym (div-div-eq-div-mul b 2 (2 ^ j)))

module _ (b : ℕ) (t : Bool) where
  doubled_first : bit_at 0 (2 * b + cond t 1 0) ≡ t
  doubled_first =
      let odd : (2 * b + cond t 1 0) % 2 ≡ cond t 1 0 = omega (arith, bit_small t) in
      bit_first (2 * b + cond t 1 0) ∙ ap (λ x. eqb x 1) odd ∙ bit_says t

  doubled_later : (j : ℕ) → bit_at (suc j) (2 * b + cond t 1 0) ≡ bit_at j b
  doubled_later j =
      let half : (2 * b + cond t 1 0) / 2 ≡ b = omega (arith, bit_small t) in
      bit_later j (2 * b + cond t 1 0) ∙ ap (bit_at j) half

  doubled_fits : (m : ℕ) → b < 2 ^ m → 2 * b + cond t 1 0 < 2 ^ suc m
  doubled_fits m h = omega (arith, bit_small t, pow-succ' 2 m)

-- Adding a run of equal bits is adding them one by one,
run_of_none : (t : Bool) (b : ℕ) → with_run 0 t b ≡ b
run_of_none true b = omega arith
run_of_none false b = omega arith

run_of_more : (t : Bool) (b r : ℕ) → with_run (suc r) t b ≡ 2 * with_run r t b + cond t 1 0
run_of_more true b r = omega (arith, pow-succ' 2 r, ap (λ p. b * p) (pow-succ' 2 r) ∙ mul_left_comm b 2 (2 ^ r), pow_pos r)
run_of_more false b r = omega (arith, ap (λ p. b * p) (pow-succ' 2 r) ∙ mul_left_comm b 2 (2 ^ r))

-- and a word with room for them stays within 32 bits.
pub run_fits : (t : Bool) (b r : ℕ) → r ≤ 32 → b < 2 ^ (32 - r) → with_run r t b < 4294967296
run_fits t b r few low =
    let exponent : 32 - r + r ≡ 32 = omega arith in
    let top : 2 ^ (32 - r) * 2 ^ r ≡ 2 ^ 32 = sym (pow-add 2 (32 - r) r) ∙ ap (λ e. 2 ^ e) exponent in
    omega (arith, mul-le-mul_right (2 ^ r) low, suc-mul b (2 ^ r), ones t, pow_pos r)
  where
    ones : (t : Bool) → cond t (2 ^ r - 1) 0 ≤ 2 ^ r - 1
    ones true = omega arith
    ones false = omega arith

-- The code shifts a word by less than 32, and one that gets 32 bits is zero.
pub shift_small : (r : ℕ) {s : ℕ} → s ≡ cond (ltb r 32) r 0 → s < 32
shift_small r q = go (ltb r 32) refl q
  where
    go : (t : Bool) {s : ℕ} → ltb r 32 ≡ t → s ≡ cond t r 0 → s < 32
    go true h q = omega (arith, ltb-true r 32 h)
    go false h q = omega arith

pub shifted : (b r : ℕ) {s : ℕ} → r ≤ 32 → b < 2 ^ (32 - r) → s ≡ cond (ltb r 32) r 0 → b * 2 ^ s % 2 ^ 32 ≡ b * 2 ^ r
shifted b r {s} few low q = go (ltb r 32) refl q
  where
    go : (t : Bool) → ltb r 32 ≡ t → s ≡ cond t r 0 → b * 2 ^ s % 2 ^ 32 ≡ b * 2 ^ r
    go true h q = ap (λ x. b * 2 ^ x % 2 ^ 32) q ∙ shl_exact (32 - r) r 32 low (omega arith)
    go false h q =
        let all : r ≡ 32 = omega (arith, ltb-false r 32 h) in
        let none : b ≡ 0 = omega (arith, rw all at low) in
        rw (none, zero-mul (2 ^ s), zero-mul (2 ^ r))

-- The tests from j on are made into bits, of as many as `size` says, and the word has no other.
pub record Gathering (size : ℕ) (test : ℕ → Bool) (j bits : ℕ) : Type 0 where
  pub within : j ≤ size
  pub each : (i : ℕ) → i < size - j → bit_at i bits ≡ test (j + i)
  pub fits : bits < 2 ^ (size - j)

module _ {size : ℕ} {test : ℕ → Bool} where
  pub gather_none : Gathering size test size 0
  gather_none = record { within = omega arith; each = λ i h. absurd (omega arith); fits = pow_pos (size - size) }

  module _ {j bits : ℕ} (g : Gathering size test j bits) where
    -- There is room for r bits more, where as many are left.
    pub gather_fits : (r : ℕ) → r ≤ j → size ≤ 32 → bits < 2 ^ (32 - r)
    gather_fits r h few =
        let fewer : size - j ≤ 32 - r = omega arith in
        let most : 2 ^ (size - j) ≤ 2 ^ (32 - r) = pow-le-pow_right (omega arith) fewer in
        omega (arith, g.fits)

    -- The next bit, one place before.
    pub gather_more : 0 < j → Gathering size test (j - 1) (2 * bits + cond (test (j - 1)) 1 0)
    gather_more h =
        let one_more : suc (size - j) ≡ size - (j - 1) = omega (arith, g.within) in
        record {
          within = omega (arith, g.within);
          each = λ i l. each i (omega (arith, g.within));
          fits = rw one_more at (doubled_fits bits (test (j - 1)) (size - j) g.fits);
        }
      where
        each : (i : ℕ) → i < suc (size - j) → bit_at i (2 * bits + cond (test (j - 1)) 1 0) ≡ test (j - 1 + i)
        each zero l = doubled_first bits (test (j - 1)) ∙ ap test (omega arith)
        each (suc i) l = doubled_later bits (test (j - 1)) i ∙ g.each i (omega arith) ∙ ap test (omega arith)

    pub gather_all : j ≡ 0 → (i : ℕ) → i < size → bit_at i bits ≡ test i
    gather_all q i l = g.each i (omega arith) ∙ ap test (omega arith)

  -- The same bit r times, in the places before.
  pub gather_run : {j bits : ℕ} → Gathering size test j bits → (t : Bool) (r : ℕ) → r ≤ j → ((i : ℕ) → j - r ≤ i → i < j → test i ≡ t)
      → Gathering size test (j - r) (with_run r t bits)
  gather_run {j} {bits} g t zero h same = let place : j - 0 ≡ j = omega arith in rw (run_of_none t bits, place) g
  gather_run {j} {bits} g t (suc r) h same =
      let so_far = gather_run g t r (omega arith) (λ i l m. same i (omega arith) m) in
      let this : test (j - r - 1) ≡ t = same (j - r - 1) (omega arith) (omega arith) in
      let place : j - r - 1 ≡ j - suc r = omega arith in
      rw (run_of_more t bits r, ← place) (rw this at (gather_more so_far (omega arith)))
