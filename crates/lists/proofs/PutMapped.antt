-- A mapped list put into an array element by element: of the numbers below a bound, and of any list.
-- Assumes nothing.
use Prim.Native.Nat.{ℕ, zero-le, ◌+◌, ◌≤◌, ◌<◌}
use mathlib.Core.Path.{◌≡◌, refl}
use mathlib.Core.List.{List, map}
use lib.ListN.{length, get_or, take, set}
use lib.Seq.{take_all}
use Rattle.lists.specs.Count.{from, below}
use Rattle.lists.specs.Put.{PutTo}
use Rattle.lists.proofs.Numbered.{map_below_more}
use Rattle.lists.proofs.TakeDrop.{map_take_more}
use Rattle.lists.proofs.Put.{put_to_none, put_more}

module _ {A : Type 0} (f : ℕ → A) where
  pub put_below_none : (before : List A) → PutTo 0 (map f (below 0)) before before 0
  unfolding below from
  put_below_none before = put_to_none before 0 zero-le

  pub put_below_more : {before now : List A} {n : ℕ} (x : A) → PutTo 0 (map f (below n)) before now n → n < length now → f n ≡ x
      → PutTo 0 (map f (below (n + 1))) before (set now n x) (n + 1)
  put_below_more {n = n} x p h q = rw (map_below_more f f n x (λ i l. refl) q) (put_more x p h)

module _ {A B : Type 0} (f : A → B) (xs : List A) {before now : List B} {i : ℕ} (p : PutTo 0 (map f (take i xs)) before now i) where
  pub put_map_more : (d : A) (x : B) → i < length xs → i < length now → f (get_or xs i d) ≡ x → PutTo 0 (map f (take (i + 1) xs)) before (set now i x) (i + 1)
  put_map_more d x h l q = rw (map_take_more d xs i f h, q) (put_more x p l)

  pub put_map_all : length xs ≤ i → PutTo 0 (map f xs) before now i
  put_map_all h = rw (take_all i xs h) at p
