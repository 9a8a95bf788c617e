-- A list put into an array: what stands before it, in it and behind it; lists put one behind the other are put together.
-- Assumes nothing.
use Prim.Native.Nat.{ℕ, ◌+◌, ◌≤◌, ◌<◌}
use mathlib.Core.Path.{◌≡◌, refl, sym, ap, ◌∙◌}
use mathlib.Core.List.{List, [], ◌∷◌, ◌++◌, append_assoc}
use native.Mathlib.Nat.{zero-add}
use native.Mathlib.Omega.{arith}
use lib.ListN.{length, take, drop, set, length-append, length-drop, take-append-drop}
use lib.Seq.{length-take-le, take_at, drop-drop, drop-append-add, sets-eq}
use Rattle.lists.specs.Put.{Put, PutTo, OnlyFirst}

module _ {A : Type 0} where
  -- Nothing was put.
  pub put_none : (b : List A) (at : ℕ) → at ≤ length b → Put at [] b b
  put_none b at h =
      let same : at + 0 ≡ at = omega arith in
      record { room = omega arith; is = rw same (sym (take-append-drop at b)) }

  -- One store.
  pub put_one : (b : List A) (at : ℕ) (x : A) → at < length b → Put at (x ∷ []) b (set b at x)
  put_one b at x h =
      record { room = omega arith; is = sets-eq (x ∷ []) b at (omega arith) ∙ append_assoc (take at b) (x ∷ []) (drop (at + 1) b) }

  module _ {a b : List A} {at : ℕ} {xs : List A} (p : Put at xs a b) where
    head_length : length (take at a ++ xs) ≡ at + length xs
    head_length = length-append (take at a) xs ∙ ap (λ n. n + length xs) (length-take-le at a (omega (arith, p.room)))

    whole : b ≡ (take at a ++ xs) ++ drop (at + length xs) a
    whole = p.is ∙ sym (append_assoc (take at a) xs (drop (at + length xs) a))

    -- The array up to the place behind the list.
    pub put_head : take (at + length xs) b ≡ take at a ++ xs
    put_head = ap (take (at + length xs)) whole ∙ take_at (take at a ++ xs) _ (at + length xs) head_length

    -- What stands behind the list is as it came.
    pub put_rest : (n : ℕ) → drop (at + length xs + n) b ≡ drop (at + length xs + n) a
    put_rest n =
        ap (drop (at + length xs + n)) whole
        ∙ ap (λ k. drop (k + n) ((take at a ++ xs) ++ drop (at + length xs) a)) (sym head_length)
        ∙ drop-append-add (take at a ++ xs) (drop (at + length xs) a) n
        ∙ drop-drop n (at + length xs) a

    -- The array keeps its length.
    pub put_length : length b ≡ length a
    put_length =
        ap length whole
        ∙ length-append (take at a ++ xs) (drop (at + length xs) a)
        ∙ omega (arith, head_length, length-drop (at + length xs) a, p.room)

  -- A list, and another behind it.
  pub put_on : {a b c : List A} {at : ℕ} {xs ys : List A} → Put at xs a b → Put (at + length xs) ys b c → Put at (xs ++ ys) a c
  put_on {a} {b} {c} {at} {xs} {ys} p q =
      let sum : at + length (xs ++ ys) ≡ at + length xs + length ys = omega (arith, length-append xs ys) in
      record {
        room = omega (arith, sum, q.room, put_length p);
        is =
            q.is
            ∙ ap (λ l. l ++ (ys ++ drop (at + length xs + length ys) b)) (put_head p)
            ∙ ap (λ l. (take at a ++ xs) ++ (ys ++ l)) (put_rest p (length ys))
            ∙ rw (append_assoc (take at a), append_assoc xs ys, sum);
      }

  -- The same, where the places are known.
  pub put_behind : {a b c : List A} {at mid next : ℕ} {xs ys : List A} → PutTo at xs a b mid → PutTo mid ys b c next → PutTo at (xs ++ ys) a c next
  put_behind {xs = xs} {ys = ys} p q =
      record {
        put = put_on p.put (rw p.behind at q.put);
        behind = omega (arith, p.behind, q.behind, length-append xs ys);
      }

  -- Nothing was put yet.
  pub put_to_none : (b : List A) (at : ℕ) → at ≤ length b → PutTo at [] b b at
  put_to_none b at h = record { put = put_none b at h; behind = omega arith }

  -- One element more behind the list.
  pub put_more : {a b : List A} {at next : ℕ} {xs : List A} (x : A) → PutTo at xs a b next → next < length b → PutTo at (xs ++ (x ∷ [])) a (set b next x) (next + 1)
  put_more {b = b} {next = next} x p h = put_behind p (record { put = put_one b next x h; behind = refl })

  -- A list put at the front: the array begins with it, and the rest is as it came.
  module _ {xs a b : List A} {r : ℕ} (p : PutTo 0 xs a b r) where
    pub put_count : r ≡ length xs
    put_count = p.behind ∙ zero-add (length xs)

    pub put_front : b ≡ xs ++ drop r a
    put_front = p.put.is ∙ ap (λ n. xs ++ drop n a) (sym p.behind)

    pub put_taken : take r b ≡ xs
    put_taken = ap (take r) put_front ∙ take_at xs (drop r a) r (sym put_count)

    pub put_fits : r ≤ length a
    put_fits = omega (arith, p.behind, p.put.room)

    -- There only the first r elements changed.
    pub put_only_first : OnlyFirst r a b
    put_only_first = record { put = rw put_taken p.put }

  -- Where only the first elements changed, the array keeps its length too.
  pub only_first_length : {n : ℕ} {a b : List A} → OnlyFirst n a b → length b ≡ length a
  only_first_length o = put_length o.put
