-- Rows of one length in one array: where an element of a row stands, where a row begins and ends, and how long it is.
-- Assumes nothing.
use Prim.Native.Nat.{ℕ, ◌+◌, ◌*◌, ◌/◌, ◌%◌, ◌≤◌, ◌<◌}
use mathlib.Core.Path.{◌≡◌, subst, ◌∙◌}
use mathlib.Core.List.{List}
use native.Mathlib.Nat.{suc-mul, mul-le-mul_right, div-add-mod', div-lt_iff_lt-mul, mod-lt}
use native.Mathlib.Numerals.{add-one}
use native.Mathlib.Omega.{arith}
use lib.ListN.{length, get_or, take, drop, length-drop}
use lib.Seq.{get_or-drop, get_or-take, length-take-le}

-- Element j of row i, of n rows of k, is within the array.
pub place_within : (i n k j size : ℕ) → i < n → j < k → n * k ≤ size → i * k + j < size
place_within i n k j size h l room = omega (arith, suc-mul i k, mul-le-mul_right k h)

-- What holds of each element of each row holds at every place.
pub every_place : (P : ℕ → Type 0) (n k : ℕ) → 1 ≤ k → ((i j : ℕ) → i < n → j < k → P (i * k + j)) → (x : ℕ) → x < n * k → P x
every_place P n k some each x h =
    subst P (div-add-mod' x k) (each (x / k) (x % k) ((div-lt_iff_lt-mul {k = k} {x = x} {y = n} some).1 h) (mod-lt x some))

-- An array with room for n rows of k has each of them.
pub row_room : (v n k size : ℕ) → v < n → n * k ≤ size → v * k + k ≤ size
row_room v n k size h room = omega (arith, suc-mul v k, mul-le-mul_right k h)

-- A row is as long as it is asked for.
pub row_length : {A : Type 0} (rows : List A) (at n : ℕ) → at + n ≤ length rows → length (take n (drop at rows)) ≡ n
row_length rows at n h = length-take-le n (drop at rows) (simp length-drop (omega arith))

-- The place behind a row.
pub row_behind : (i k : ℕ) → i * k + k ≡ (i + 1) * k
row_behind i k = rw add-one (omega (arith, suc-mul i k))

-- The row before another ends where that begins, or earlier.
pub row_before : (h i k : ℕ) → h < i → h * k + k ≤ i * k
row_before h i k l = row_room h i k (i * k) l (omega arith)

-- An element of a part of an array.
pub part_at : (from size : ℕ) (l : List ℕ) (j : ℕ) → j < size → get_or (take size (drop from l)) j 0 ≡ get_or l (from + j) 0
part_at from size l j h = get_or-take size (drop from l) j 0 h ∙ get_or-drop from l j 0
