-- Fields of two bytes: the bytes of a list of them, that what is written is read again, and that what is read, written again, is the bytes.
-- Assumes nothing.
use Prim.Native.Nat.{ℕ, zero, suc, ◌+◌, ◌*◌, ◌/◌, ◌%◌, ◌≤◌, ◌<◌}
use mathlib.Core.Path.{◌≡◌, refl, ap, ap₂, ◌∙◌}
use mathlib.Core.List.Memᴰ
use mathlib.Core.List.{List, [], ◌∷◌, ◌++◌, map}
use native.Mathlib.Numerals.{add-one}
use native.Mathlib.Omega.{arith}
use lib.ListN.{length, get_or, take, drop}
use lib.Seq.{drop-cons}
use Rattle.lists.specs.Count.{from, below}
use Rattle.lists.specs.Lists.{flat}
use Rattle.lists.specs.Member.{◌∈◌}
use Rattle.graph.specs.Bytes.{u16_at}
use Rattle.rules.specs.CoverBytes.{u16_bytes, u16_list}

-- Every number of the list is a byte.
abbrev pub Bytes : List ℕ → Type 0
Bytes b = (i : ℕ) → i < length b → get_or b i 0 < 256

-- Every number of the list fits a field of two bytes.
abbrev pub Small : List ℕ → Type 0
Small xs = (x : ℕ) → x ∈ xs → x < 65536

-- A field is two bytes.
pub field_length : (x : ℕ) → length (u16_bytes x) ≡ 2
unfolding u16_bytes
field_length x = refl

-- The bytes of fields, with one field more in front.
pub fields_cons : (x : ℕ) (xs : List ℕ) → u16_list (x ∷ xs) ≡ x % 256 ∷ x / 256 % 256 ∷ u16_list xs
unfolding u16_list u16_bytes flat
fields_cons x xs = refl

-- Fields after fields are bytes after bytes.
pub fields_append : (xs ys : List ℕ) → u16_list (xs ++ ys) ≡ u16_list xs ++ u16_list ys
unfolding u16_list u16_bytes flat
fields_append [] ys = refl
fields_append (x ∷ xs) ys = ap (λ l. x % 256 ∷ x / 256 % 256 ∷ l) (fields_append xs ys)

-- Fields are two bytes each.
pub fields_length : (xs : List ℕ) → length (u16_list xs) ≡ 2 * length xs
unfolding u16_list u16_bytes flat
fields_length [] = refl
fields_length (x ∷ xs) = omega (arith, fields_length xs)

-- A number that fits is its two bytes.
low_and_high : (x : ℕ) → x < 65536 → x % 256 + 256 * (x / 256 % 256) ≡ x
low_and_high x h = omega arith

-- A field behind another is read past it.
u16_at_past : (x y : ℕ) (b : List ℕ) (p q : ℕ) → q ≡ suc (suc p) → u16_at (x ∷ y ∷ b) q ≡ u16_at b p
unfolding u16_at
u16_at_past x y b p q e =
    let f : q + 1 ≡ suc (suc (p + 1)) = omega arith in
    rw (f, e)

-- Fields that are written are read again.
pub read_written : (xs : List ℕ) → Small xs → (i : ℕ) → u16_at (u16_list xs) (2 * i) ≡ get_or xs i 0
unfolding u16_at u16_list flat
read_written [] s i = refl
read_written (x ∷ xs) s zero = rw fields_cons (low_and_high x (s x (Memᴰ.head refl)))
read_written (x ∷ xs) s (suc i) =
    rw fields_cons (u16_at_past (x % 256) (x / 256 % 256) (u16_list xs) (2 * i) (2 * suc i) (omega arith) ∙ read_written xs (λ y m. s y (Memᴰ.tail m)) i)

-- One field that is read, written again, is the two bytes where it stood.
pub field_back : (b : List ℕ) (q m : ℕ) → Bytes b → suc q < length b → u16_at b q % 256 ∷ u16_at b q / 256 % 256 ∷ take m (drop (suc (suc q)) b) ≡ take (suc (suc m)) (drop q b)
unfolding u16_at
field_back b q m by h =
    let h' : q < length b = omega arith in
    rw (drop-cons b q 0, drop-cons b (suc q) 0, add-one)
    (ap₂ (λ x y. x ∷ y ∷ take m (drop (suc (suc q)) b)) (omega (arith, by q h', by (suc q) h)) (omega (arith, by q h', by (suc q) h)))

-- Fields that are read, written again, are the bytes where they stood.
written_run : (b : List ℕ) (p a n : ℕ) → Bytes b → p + 2 * (a + n) ≤ length b → u16_list (map (λ i. u16_at b (p + 2 * i)) (from a n)) ≡ take (2 * n) (drop (p + 2 * a) b)
unfolding from u16_list flat
written_run b p a zero by h = refl
written_run b p a (suc n) by h =
    let e : 2 * suc n ≡ suc (suc (2 * n)) = omega arith in
    let f : p + 2 * suc a ≡ suc (suc (p + 2 * a)) = omega arith in
    rw (fields_cons, written_run b p (suc a) n by (omega arith), e, f) (field_back b (p + 2 * a) (2 * n) by (omega arith))

pub written_read : (b : List ℕ) (p n : ℕ) → Bytes b → p + 2 * n ≤ length b → u16_list (map (λ i. u16_at b (p + 2 * i)) (below n)) ≡ take (2 * n) (drop p b)
unfolding below
written_read b p n by h =
    let e : p + 0 ≡ p = omega arith in
    written_run b p 0 n by (omega arith) ∙ ap (λ q. take (2 * n) (drop q b)) e
