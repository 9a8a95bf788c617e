-- Only the first n elements of an array changed, exactly where the array keeps its length and what stands behind them; so it is after
-- no change, after one more store among them, after a list put among them, and after one change behind the other.
-- Assumes nothing.
use Prim.Native.Nat.{ℕ, ◌+◌, ◌-◌, ◌≤◌, ◌<◌}
use mathlib.Core.Path.{◌≡◌, refl, sym, ap, ◌∙◌}
use mathlib.Core.Logic.{dite}
use mathlib.Core.List.{List, ◌++◌, append-nil}
use native.Mathlib.Decide.{dec_le}
use native.Mathlib.Nat.{zero-add}
use native.Mathlib.Omega.{arith}
use lib.ListN.{length, take, drop, set, length-append, length-drop, length-set, take-append-drop, drop_of_length-le}
use lib.Seq.{length-take-le, take_all, drop_at, drop-drop, drop-set-lt}
use Rattle.lists.specs.Put.{Put, OnlyFirst}
use Rattle.lists.proofs.Put.{put_length, put_rest, only_first_length}

module _ {A : Type 0} where
  module _ (n : ℕ) {a b : List A} where
    -- an array that is no longer than n may have changed everywhere
    all_first : length a ≤ n → length b ≡ length a → OnlyFirst n a b
    all_first h same =
        let all : length a ≤ 0 + length b = omega arith in
        record {
          put =
              rw (take_all n b (omega arith))
              (record { room = omega arith; is = sym (ap (λ l. b ++ l) (drop_of_length-le a all) ∙ append-nil b) });
        }

    -- in a longer one the first n did
    some_first : n ≤ length a → length b ≡ length a → drop n b ≡ drop n a → OnlyFirst n a b
    some_first h same rest =
        let count : length (take n b) ≡ n = length-take-le n b (omega arith) in
        record {
          put =
              record {
                room = omega (arith, count);
                is = sym (take-append-drop n b) ∙ ap (λ l. take n b ++ l) (rest ∙ ap (λ k. drop k a) (sym (zero-add _ ∙ count)));
              };
        }

    -- The array keeps its length and what stands behind the first n elements: only these may have changed.
    pub is_only_first : length b ≡ length a → drop n b ≡ drop n a → OnlyFirst n a b
    is_only_first same rest = dite (dec_le n (length a)) (λ h. some_first h same rest) (λ h. all_first (omega arith) same)

    -- The other way round.
    pub only_first_behind : OnlyFirst n a b → drop n b ≡ drop n a
    only_first_behind o = dite (dec_le n (length a)) longer (λ h. no_longer (omega arith))
      where
        longer : n ≤ length a → drop n b ≡ drop n a
        longer h =
            let count : length (take n b) ≡ n = length-take-le n b (omega (arith, only_first_length o)) in
            ap (drop n) (o.put.is ∙ ap (λ k. take n b ++ drop k a) (zero-add _ ∙ count)) ∙ drop_at (take n b) (drop n a) n count

        no_longer : length a ≤ n → drop n b ≡ drop n a
        no_longer h = let all : length b ≤ n = omega (arith, only_first_length o) in drop_of_length-le b all ∙ sym (drop_of_length-le a h)

  -- Nothing changed.
  pub only_first_none : (n : ℕ) (a : List A) → OnlyFirst n a a
  only_first_none n a = is_only_first n refl refl

  module _ {n : ℕ} {a b : List A} (o : OnlyFirst n a b) where
    -- One store more among them.
    pub only_first_store : (i : ℕ) (x : A) → i < n → OnlyFirst n a (set b i x)
    only_first_store i x h =
        is_only_first n (length-set b i x ∙ only_first_length o) (drop-set-lt n b i x h ∙ only_first_behind n o)

    -- One change more.
    pub only_first_on : {c : List A} → OnlyFirst n b c → OnlyFirst n a c
    only_first_on p =
        is_only_first n (only_first_length p ∙ only_first_length o) (only_first_behind n p ∙ only_first_behind n o)

    -- Where only the first n changed, only the first m did that are no fewer.
    pub only_first_of_more : (m : ℕ) → n ≤ m → OnlyFirst m a b
    only_first_of_more m h =
        let q : m ≡ n + (m - n) = omega arith in
        is_only_first m (only_first_length o)
        (ap (λ k. drop k b) q
        ∙ sym (drop-drop (m - n) n b)
        ∙ ap (drop (m - n)) (only_first_behind n o)
        ∙ drop-drop (m - n) n a
        ∙ ap (λ k. drop k a) (sym q))

  -- One change, then another of no fewer elements.
  pub only_first_then : {m k : ℕ} {a b c : List A} → OnlyFirst m a b → OnlyFirst k b c → m ≤ k → OnlyFirst k a c
  only_first_then {k = k} p q h = only_first_on (only_first_of_more p k h) q

  -- A list put within the first elements.
  pub only_first_put : {a b : List A} {at : ℕ} {xs : List A} → Put at xs a b → (n : ℕ) → at + length xs ≤ n → OnlyFirst n a b
  only_first_put {at = at} {xs} p n h =
      let k : ℕ = n - (at + length xs) in
      let e : n ≡ at + length xs + k = omega arith in
      is_only_first n (put_length p) (rw e (put_rest p k))

  -- A list of n elements stands for them.
  pub only_front : (n : ℕ) (s a : List A) → length s ≡ n → n ≤ length a → OnlyFirst n a (s ++ drop n a)
  only_front n s a q h =
      is_only_first n (length-append s (drop n a) ∙ omega (arith, length-drop n a)) (drop_at s (drop n a) n q)
