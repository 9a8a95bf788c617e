-- A list put into an array element by element is put there whole: what a loop that writes knows at each turn.
-- Assumes nothing.
use Prim.Native.Nat.{ℕ, ◌+◌, ◌≤◌, ◌<◌}
use mathlib.Core.Path.{◌≡◌, refl, sym, ap, ◌∙◌}
use mathlib.Core.List.{List, [], ◌∷◌, ◌++◌, append_assoc, append-nil}
use native.Mathlib.Omega.{arith}
use lib.ListN.{length, set, length-append, length-set}
use Rattle.lists.specs.Put.{PutTo}
use Rattle.lists.proofs.Put.{put_to_none, put_more, put_behind, put_length}

module _ {A : Type 0} where
  -- Of the whole list all but `rest` was put into the array, from one place up to the next free one.
  pub record PutSoFar (at : ℕ) (whole rest before after : List A) (next : ℕ) : Type 0 where
    pub done : List A
    pub put : PutTo at done before after next
    pub whole_is : whole ≡ done ++ rest
    pub same : length after ≡ length before

  -- Nothing was put yet.
  pub so_far_none : {whole : List A} (before : List A) (at : ℕ) → at ≤ length before → PutSoFar at whole whole before before at
  so_far_none before at h = record { done = []; put = put_to_none before at h; whole_is = refl; same = refl }

  module _ {at : ℕ} {whole rest before after : List A} {next : ℕ} (w : PutSoFar at whole rest before after next) where
    -- The same, where what is left is said in another way.
    pub so_far_same : {other : List A} → rest ≡ other → PutSoFar at whole other before after next
    so_far_same q =
        record { done = w.done; put = w.put; whole_is = w.whole_is ∙ ap (λ l. w.done ++ l) q; same = w.same }

    -- One element more.
    pub so_far_more : {x : A} {other : List A} → rest ≡ x ∷ other → next < length after → PutSoFar at whole other before (set after next x) (next + 1)
    so_far_more {x} {other} q h =
        record {
          done = w.done ++ (x ∷ []);
          put = put_more x w.put h;
          whole_is = w.whole_is ∙ ap (λ l. w.done ++ l) q ∙ sym (append_assoc w.done (x ∷ []) other);
          same = length-set after next x ∙ w.same;
        }

    -- A list more.
    pub so_far_on : {now : List A} {behind : ℕ} {xs other : List A} → rest ≡ xs ++ other → PutTo next xs after now behind → PutSoFar at whole other before now behind
    so_far_on {xs = xs} {other = other} q p =
        record {
          done = w.done ++ xs;
          put = put_behind w.put p;
          whole_is = w.whole_is ∙ ap (λ l. w.done ++ l) q ∙ sym (append_assoc w.done xs other);
          same = put_length p.put ∙ w.same;
        }

    -- Nothing is left.
    pub so_far_all : rest ≡ [] → PutTo at whole before after next
    so_far_all q = rw (w.whole_is ∙ ap (λ l. w.done ++ l) q ∙ append-nil w.done) w.put

    -- The place behind the whole list, once all of it is put.
    pub so_far_behind : at + length whole ≡ next + length rest
    so_far_behind = omega (arith, ap length w.whole_is, length-append w.done rest, w.put.behind)

    -- Where there is room for the whole list, there is room for the list that is put next.
    pub so_far_room : (xs other : List A) → rest ≡ xs ++ other → at + length whole ≤ length before → next + length xs ≤ length after
    so_far_room xs other q room = omega (arith, so_far_behind, w.same, ap length q, length-append xs other)
