-- A row put into its place among rows of one length: it stands there, the rows before it are as they came, and so is what stands behind it.
-- Assumes nothing.
use Prim.Native.Nat.{ℕ, ◌+◌, ◌*◌, ◌-◌, ◌≤◌, ◌<◌}
use mathlib.Core.Path.{◌≡◌, sym, ap, ◌∙◌}
use mathlib.Core.List.{List, ◌++◌, append_assoc}
use native.Mathlib.Omega.{arith}
use lib.ListN.{length, take, drop}
use lib.Seq.{slice, drop-drop}
use Rattle.std.specs.List.{copy_within}
use Rattle.lists.specs.Put.{Put, OnlyFirst}
use Rattle.lists.proofs.OnlyFirst.{only_first_then, only_first_put}
use Rattle.lists.proofs.Put.{put_length}
use Rattle.lists.proofs.PutPlaces.{put_part_before}
use Rattle.lists.proofs.PutSlice.{put_slice}
use Rattle.lists.proofs.SegmentSizes.{slice_taken}
use Rattle.distance_table.specs.Tabled.{row_of}
use Rattle.distance_table.proofs.RowPlaces.{row_before, row_behind, row_length}

-- What stood there was replaced by a list as long, as code that was lent it leaves the array.
pub row_put : (rows row : List ℕ) (at n : ℕ) {s : ℕ} → at + n ≤ length rows → s ≡ n → length row ≡ n
    → Put at row rows (take at rows ++ (row ++ drop s (drop at rows)))
row_put rows row at n {s} fits same size =
    let behind : at + s ≡ at + length row = omega arith in
    record { room = omega arith; is = ap (λ l. take at rows ++ (row ++ l)) (drop-drop s at rows ∙ ap (λ k. drop k rows) behind) }

-- A row is copied to a place further on.
pub row_copied : (rows : List ℕ) (from to n : ℕ) → from + n ≤ to → to + n ≤ length rows → Put to (take n (drop from rows)) rows (copy_within rows from (from + n) to)
row_copied rows from to n apart fits =
    let row = take n (drop from rows) in
    let count : from + n - from ≡ n = omega arith in
    let size : length row ≡ n = row_length rows from n (omega arith) in
    record {
      room = omega arith;
      is = rw count (append_assoc (take to rows) row (drop (to + n) rows) ∙ ap (λ k. take to rows ++ (row ++ drop (to + k) rows)) (sym size));
    }

-- A row is a part of the array.
row_part : (rows : List ℕ) (i n : ℕ) → i * n + n ≤ length rows → slice (i * n) (i * n + n) rows ≡ row_of n rows i
row_part rows i n fits =
    let count : i * n + n - i * n ≡ n = omega arith in
    slice_taken (i * n) (i * n + n) rows (omega arith) fits ∙ ap (λ x. take x (drop (i * n) rows)) count

module _ (j n : ℕ) {rows row after : List ℕ} (p : Put (j * n) row rows after) (size : length row ≡ n) where
  pub row_here : row_of n after j ≡ row
  row_here =
      sym (row_part after j n (omega (arith, p.room, put_length p)))
      ∙ ap (λ k. slice (j * n) (j * n + k) after) (sym size)
      ∙ put_slice p

  pub row_earlier : (i : ℕ) → i < j → row_of n after i ≡ row_of n rows i
  row_earlier i h =
      let before : i * n + n ≤ j * n = row_before i j n h in
      sym (row_part after i n (omega (arith, p.room, put_length p)))
      ∙ put_part_before p (i * n) (i * n + n) before
      ∙ row_part rows i n (omega (arith, p.room))

  -- Where only the rows before it had changed, only these and it have.
  pub only_first_row : {first : List ℕ} → OnlyFirst (j * n) first rows → OnlyFirst ((j + 1) * n) first after
  only_first_row o = rw (← row_behind j n) (only_first_then o (only_first_put p (j * n + n) (omega arith)) (omega arith))
