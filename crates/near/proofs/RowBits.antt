-- A row of bytes, written bit by bit from a word, and rows of them in one array, one for each part.
-- Assumes nothing.
use Prim.Native.Nat.{ℕ, zero, suc, ◌+◌, ◌*◌, ◌/◌, ◌%◌, ◌^◌, ◌≤◌, ◌<◌}
use mathlib.Core.Path.{◌≡◌, refl, sym, ap, ◌∙◌}
use mathlib.Core.Bool.{cond}
use mathlib.Core.List.{List, ◌++◌}
use native.Mathlib.Nat.{div-one, pow-suc, div-div-eq-div-mul}
use native.Mathlib.Numerals.{add-one}
use native.Mathlib.Omega.{arith}
use borrow.Author.Count.{below_more}
use lib.Dec.{eqb}
use lib.ListN.{length, get_or, take, drop, set}
use Rattle.lists.specs.Put.{OnlyFirst}
use Rattle.lists.proofs.OnlyFirst.{only_first_none}
use Rattle.lists.proofs.Put.{put_length}
use Rattle.lists.proofs.PutPlaces.{put_at, put_at_before}
use Rattle.lists.proofs.SetUpTo.{SetUpTo, set_none, set_more}
use Rattle.distance_table.proofs.RowPlaces.{row_length, row_before}
use Rattle.distance_table.proofs.RowsPut.{row_put, only_first_row}
use Rattle.near.specs.Bits.{bit_at}
use Rattle.near.specs.Rows.{RowPut, RowsPut}

-- The last bit of a word, as a byte.
digit_says : (x : ℕ) → x < 2 → x ≡ cond (eqb x 1) 1 0
digit_says zero h = refl
digit_says (suc zero) h = refl
digit_says (suc (suc x)) h = absurd (omega arith)

-- The first j bits are written, and `rest` has the others.
pub record RowPutting (bits j rest : ℕ) (before after : List ℕ) : Type 0 where
  pub others : rest ≡ bits / 2 ^ j
  pub stored : SetUpTo (λ i. cond (bit_at i bits) 1 0) j before after

module _ {bits : ℕ} where
  pub row_none : (before : List ℕ) → RowPutting bits 0 bits before before
  row_none before = record { others = sym (div-one bits); stored = set_none before }

  module _ {j rest : ℕ} {before after : List ℕ} (m : RowPutting bits j rest before after) where
    this_bit : rest % 2 ≡ cond (bit_at j bits) 1 0
    unfolding bit_at
    this_bit = digit_says (rest % 2) (omega arith) ∙ ap (λ x. cond (eqb (x % 2) 1) 1 0) m.others

    pub row_more : j < length after → RowPutting bits (j + 1) (rest / 2) before (set after j (rest % 2))
    row_more h =
        record {
          others =
              ap (λ x. x / 2) m.others ∙ div-div-eq-div-mul bits (2 ^ j) 2
              ∙ ap (λ x. bits / x) (sym (pow-suc 2 j)) ∙ ap (λ x. bits / 2 ^ x) (sym (add-one j));
          stored = set_more m.stored h this_bit;
        }

    pub row_all : length after ≤ j → RowPut bits before after
    row_all h = record { size = m.stored.size; each = λ i l. m.stored.done i (omega (arith, m.stored.size)) }

-- The rows of the first i parts are written, what stands behind them is as it came.
pub record RowsPutting (k : ℕ) (parts : List ℕ) (i : ℕ) (before after : List ℕ) : Type 0 where
  pub within : i ≤ length parts
  pub size : length after ≡ length before
  pub done : (h j : ℕ) → h < i → j < k → get_or after (h * k + j) 0 ≡ cond (bit_at j (get_or parts h 0)) 1 0
  pub rest : OnlyFirst (i * k) before after

module _ {k : ℕ} {parts : List ℕ} where
  pub rows_none : (before : List ℕ) → RowsPutting k parts 0 before before
  rows_none before = record { within = omega arith; size = refl; done = λ h j l. absurd (omega arith); rest = only_first_none (0 * k) before }

  module _ {i : ℕ} {before after : List ℕ} (m : RowsPutting k parts i before after) where
    -- One row more, as code that was lent it leaves the array: s is how long it is.
    pub rows_put : {s : ℕ} {row : List ℕ} → s ≡ k → i < length parts → i * k + k ≤ length after
        → RowPut (get_or parts i 0) (take s (drop (i * k) after)) row
        → RowsPutting k parts (i + 1) before (take (i * k) after ++ (row ++ drop s (drop (i * k) after)))
    rows_put {s} {row} same h fits put =
        let q : s ≡ k = same in
        let came : length (take s (drop (i * k) after)) ≡ k = rw q (row_length after (i * k) k fits) in
        let count : length row ≡ k = put.size ∙ came in
        let p = row_put after row (i * k) k fits q count in
        record {
          within = omega arith;
          size = put_length p ∙ m.size;
          done =
              λ h j l n.
              below_more (λ h. (j : ℕ) → j < k → get_or (take (i * k) after ++ (row ++ drop s (drop (i * k) after))) (h * k + j) 0 ≡ cond (bit_at j (get_or parts h 0)) 1 0) i
              (λ h l j n. put_at_before p 0 (h * k + j) (omega (arith, row_before h i k l)) ∙ m.done h j l n)
              (λ j n. put_at p 0 j (omega arith) ∙ put.each j (omega (arith, came))) h l j n;
          rest = only_first_row i k p count m.rest;
        }

    pub rows_all : length parts ≤ i → RowsPut k parts before after
    rows_all h =
        let q : i ≡ length parts = omega (arith, m.within) in
        record {
          size = m.size;
          each = λ h j l n. m.done h j (omega arith) n;
          rest = rw (← q) m.rest;
        }
