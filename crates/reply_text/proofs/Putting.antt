-- Texts put one behind the other: the room that is left, and a number digit by digit.
-- Assumes nothing.
use Prim.Native.Nat.{ℕ, ◌+◌, ◌/◌, ◌%◌, ◌≤◌, ◌<◌}
use mathlib.Core.Path.{refl}
use mathlib.Core.List.{List, [], ◌∷◌, ◌++◌}
use native.Mathlib.Omega.{arith}
use lib.ListN.{length, set, length-append}
use Rattle.lists.specs.Put.{PutTo}
use Rattle.lists.proofs.Put.{put_one, put_more, put_length}
use Rattle.reply_text.specs.Lines.{digit, digits}
use Rattle.reply_text.proofs.Digits.{digits_last, digits_more}

-- Where there is room for two lists, there is room for the first, and behind it for the second.
pub room_first : (xs ys : List ℕ) (at : ℕ) {n : ℕ} → at + length (xs ++ ys) ≤ n → at + length xs ≤ n
room_first xs ys at room = omega (arith, length-append xs ys)

pub room_then : {at next : ℕ} {before now : List ℕ} (xs ys : List ℕ) → at + length (xs ++ ys) ≤ length before → PutTo at xs before now next
    → next + length ys ≤ length now
room_then xs ys room p = omega (arith, p.behind, put_length p.put, length-append xs ys)

-- There is a place for a number's only digit, or for its last one behind those of its tenth.
pub last_room : (x at : ℕ) {n : ℕ} → x < 10 → at + length (digits x) ≤ n → at + 1 ≤ n
last_room x at {n} h room = rw (digits_last x h) at room

pub more_room : (x at : ℕ) {n : ℕ} → 10 ≤ x → at + length (digits x) ≤ n → at + length (digits (x / 10)) + 1 ≤ n
more_room x at {n} h room = omega (arith, rw (digits_more x h) at room, length-append (digits (x / 10)) (digit (x % 10) ∷ []))

-- It is put there.
pub last_put : (x at : ℕ) (out : List ℕ) → x < 10 → at + length (digits x) ≤ length out → PutTo at (digits x) out (set out at (digit x)) (at + 1)
last_put x at out h room =
    rw (digits_last x h) (record { put = put_one out at (digit x) (omega (arith, last_room x at h room)); behind = refl })

pub more_put : {at next : ℕ} {before now : List ℕ} (x : ℕ) → 10 ≤ x → at + length (digits x) ≤ length before
    → PutTo at (digits (x / 10)) before now next → PutTo at (digits x) before (set now next (digit (x % 10))) (next + 1)
more_put {at} x h room p =
    rw (digits_more x h) (put_more (digit (x % 10)) p (omega (arith, p.behind, put_length p.put, more_room x at h room)))
