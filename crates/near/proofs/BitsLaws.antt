-- The bits of words: none is set in 0, and in a word that joins two words those of both are. So a list of words is as many lists of bits.
-- Assumes nothing.
use Prim.Native.Nat.{ℕ, zero, suc, ◌/◌, ◌%◌, ◌^◌, ◌<◌, max}
use mathlib.Core.Path.{◌≡◌, refl, sym, ap, ◌∙◌}
use mathlib.Core.Bool.{Bool, false, ◌||◌}
use mathlib.Core.List.{List, [], ◌∷◌, map}
use native.Mathlib.Nat.{zero-div}
use native.Mathlib.Omega.{arith}
use lib.Bits.{bit_or, or_step, or_shr}
use lib.Dec.{eqb}
use lib.ListN.{get_or, set, replicate, get_or-map}
use Rattle.near.specs.Bits.{bit_at}

pub bit_none : (j : ℕ) → bit_at j 0 ≡ false
unfolding bit_at
bit_none j = rw (zero-div (2 ^ j))

-- of two digits the larger is 1 where one of them is
digit_or : (x y : ℕ) → x < 2 → y < 2 → eqb (max x y) 1 ≡ eqb x 1 || eqb y 1
digit_or zero zero h k = refl
digit_or zero (suc zero) h k = refl
digit_or (suc zero) zero h k = refl
digit_or (suc zero) (suc zero) h k = refl
digit_or (suc (suc x)) y h k = absurd (omega arith)
digit_or zero (suc (suc y)) h k = absurd (omega arith)
digit_or (suc zero) (suc (suc y)) h k = absurd (omega arith)

lowest_or : (a b : ℕ) → bit_or a b % 2 ≡ max (a % 2) (b % 2)
lowest_or a b = omega (arith, or_step a b)

pub bit_or_lem : (j a b : ℕ) → bit_at j (bit_or a b) ≡ bit_at j a || bit_at j b
unfolding bit_at
bit_or_lem j a b =
    let x : ℕ = a / 2 ^ j in
    let y : ℕ = b / 2 ^ j in
    ap (λ (n : ℕ). eqb (n % 2) 1) (or_shr a b j)
    ∙ ap (λ (n : ℕ). eqb n 1) (lowest_or x y)
    ∙ digit_or (x % 2) (y % 2) (omega arith) (omega arith)

-- The bits of the words of a list, at a place,
pub bit_at_lem : (j : ℕ) (words : List ℕ) (i : ℕ) → get_or (map (bit_at j) words) i false ≡ bit_at j (get_or words i 0)
bit_at_lem j words i = ap (get_or (map (bit_at j) words) i) (sym (bit_none j)) ∙ get_or-map (bit_at j) words i 0

-- after a store,
pub bits_stored : (j : ℕ) (words : List ℕ) (i word : ℕ) → map (bit_at j) (set words i word) ≡ set (map (bit_at j) words) i (bit_at j word)
bits_stored j [] i word = refl
bits_stored j (x ∷ xs) zero word = refl
bits_stored j (x ∷ xs) (suc i) word = ap (λ (l : List Bool). bit_at j x ∷ l) (bits_stored j xs i word)

-- and where no word has any.
pub bits_none : (j n : ℕ) → map (bit_at j) (replicate n 0) ≡ replicate n false
bits_none j zero = refl
bits_none j (suc n) = rw (bit_none j, bits_none j n)
