-- Fields of two bytes put one behind the other into a buffer, and the loops that put what each element of a list makes.
-- Assumes nothing.
use Prim.Native.Nat.{ℕ, ◌+◌, ◌-◌, ◌*◌, ◌/◌, ◌%◌, ◌≤◌, ◌<◌}
use mathlib.Core.Path.{◌≡◌, refl, sym, ap, ap₂, ◌∙◌}
use mathlib.Core.List.{List, [], ◌∷◌, ◌++◌}
use native.Mathlib.Omega.{arith}
use lib.ListN.{length, take, drop, get_or, replicate, replicate-append-replicate}
use lib.Seq.{take_all, drop-drop}
use borrow.Rule.Slice.PartMut.{put_mid}
use Rattle.lists.specs.Lists.{flat}
use Rattle.lists.specs.Put.{PutTo}
use Rattle.lists.proofs.EachPlace.{made_from, made_more, made_within}
use Rattle.lists.proofs.Put.{put_length, put_behind, put_to_none}
use Rattle.rules.specs.CoverBytes.{u16_bytes, u16_list}
use Rattle.rules.proofs.Fields.{fields_length, fields_append}

-- A list copied into the part of an array from one place up to another is put there.
pub put_copied : {b ys : List ℕ} {at : ℕ} (xs : List ℕ) (end : ℕ) → end ≡ at + length xs → end ≤ length b → ys ≡ xs → PutTo at xs b (put_mid at (end - at) b ys) end
put_copied {b} {ys} {at} xs end e h q =
    let behind : at + (end - at) ≡ at + length xs = omega arith in
    record {
      put = record { room = omega arith; is = ap (λ l. put_mid at (end - at) b l) q ∙ ap (λ l. take at b ++ (xs ++ l)) (drop-drop (end - at) at b ∙ ap (λ n. drop n b) behind) };
      behind = e;
    }

-- The two bytes of a number's last sixteen bits are its field.
pub field_bytes : (x : ℕ) → x % 65536 % 256 ∷ x % 65536 / 256 % 256 ∷ [] ≡ u16_bytes x
unfolding u16_bytes
field_bytes x = ap₂ (λ low high. low ∷ high ∷ []) (omega arith) (omega arith)

-- A list of one field.
one_field : (x : ℕ) → u16_bytes x ≡ u16_list (x ∷ [])
unfolding u16_bytes u16_list flat
one_field x = refl

pub as_list : {a b : List ℕ} {at next : ℕ} (x : ℕ) → PutTo at (u16_bytes x) a b next → PutTo at (u16_list (x ∷ [])) a b next
as_list x p = rw one_field at p

-- No field is put yet.
pub no_fields : (b : List ℕ) (at : ℕ) → at ≤ length b → PutTo at (u16_list []) b b at
unfolding u16_list flat
no_fields b at h = put_to_none b at h

-- Fields, and more fields behind them.
pub fields_behind : {a b c : List ℕ} {at mid next : ℕ} (xs ys : List ℕ) → PutTo at (u16_list xs) a b mid → PutTo mid (u16_list ys) b c next
    → PutTo at (u16_list (xs ++ ys)) a c next
fields_behind xs ys p q = rw (fields_append xs ys) (put_behind p q)

-- Where there is room for n fields, some are put and m more are to come, these fit.
pub room_left : {a b : List ℕ} {at next : ℕ} (xs : List ℕ) (n m : ℕ) → PutTo at (u16_list xs) a b next → at + 2 * n ≤ length a → length xs + m ≤ n
    → next + 2 * m ≤ length b
room_left xs n m p h k = omega (arith, p.behind, fields_length xs, put_length p.put)

-- One more copy stands behind the others.
pub replicate_more : (n x : ℕ) → replicate (n + 1) x ≡ replicate n x ++ (x ∷ [])
replicate_more n x = sym (replicate-append-replicate n 1 x)

-- In a loop over a list: what its first elements make is put, and there is room for what all make.
pub record FirstPut (f : ℕ → ℕ → List ℕ) (xs : List ℕ) (i at : ℕ) (a b : List ℕ) (next : ℕ) : Type 0 where
  pub within : i ≤ length xs
  pub room : at + 2 * length (made_from f 0 xs) ≤ length a
  pub put : PutTo at (u16_list (made_from f 0 (take i xs))) a b next

pub none_put : (f : ℕ → ℕ → List ℕ) (xs : List ℕ) (at : ℕ) (b : List ℕ) → at + 2 * length (made_from f 0 xs) ≤ length b → FirstPut f xs 0 at b b at
unfolding made_from
none_put f xs at b h = record { within = omega arith; room = h; put = no_fields b at (omega arith) }

module _ {f : ℕ → ℕ → List ℕ} {xs : List ℕ} {i at : ℕ} {a b : List ℕ} {next : ℕ} (w : FirstPut f xs i at a b next) where
  -- the buffer keeps its length
  pub first_length : length b ≡ length a
  first_length = put_length w.put.put

  module _ (h : i < length xs) where
    -- there is room for what the next element makes
    pub next_room : next + 2 * length (f i (get_or xs i 0)) ≤ length b
    next_room = room_left (made_from f 0 (take i xs)) (length (made_from f 0 xs)) _ w.put w.room (made_within f xs i 0 h)

    -- that is put too
    pub next_put : {c : List ℕ} {behind : ℕ} → PutTo next (u16_list (f i (get_or xs i 0))) b c behind → FirstPut f xs (i + 1) at a c behind
    next_put p =
        record {
          within = omega arith;
          room = w.room;
          put = rw (made_more f xs i 0 h) (fields_behind (made_from f 0 (take i xs)) (f i (get_or xs i 0)) w.put p);
        }

  -- all is put
  pub all_put : length xs ≤ i → PutTo at (u16_list (made_from f 0 xs)) a b next
  all_put h = rw (take_all i xs h) at w.put
