-- What a merge's note changes in the arrays, place by place.
-- Assumes nothing.
use Prim.Native.Nat.{ℕ, ◌+◌, ◌≤◌, ◌<◌}
use mathlib.Core.Path.{◌≡◌, refl, sym, ap, subst, ◌∙◌}
use mathlib.Core.List.{List}
use native.Mathlib.Omega.{arith}
use lib.ListN.{length, get_or, set, length-set}
use lib.Seq.{get_or-set_same, get_or-set_other}
use Rattle.lists.specs.Put.{OnlyFirst}
use Rattle.lists.proofs.AfterStore.{after_store}
use Rattle.lists.proofs.OnlyFirst.{only_first_none, only_first_store}
use Rattle.needs.specs.History.{NoteAsked, MergeNoted}
use Rattle.needs.proofs.MergeHistory.{Noted}

-- A place of an array.
abbrev pub at : List ℕ → ℕ → ℕ
at array i = get_or array i 0

-- The labels and the weight may be given by equal numbers.
module _ {a a' c c' w w' : ℕ} (qa : a ≡ a') (qc : c ≡ c') (qw : w ≡ w') where
  pub note_of : {number : ℕ} {made total until : List ℕ} → NoteAsked a' c' w' number made total until → NoteAsked a c w number made total until
  note_of {number} {made} {total} {until} n =
      subst (λ x. NoteAsked x c w number made total until) (sym qa)
      (subst (λ x. NoteAsked a' x w number made total until) (sym qc) (subst (λ x. NoteAsked a' c' x number made total until) (sym qw) n))

  pub noted_of : {number : ℕ} {made₀ made₁ total₀ total₁ until₀ until₁ : List ℕ} → MergeNoted a c w number made₀ made₁ total₀ total₁ until₀ until₁
      → MergeNoted a' c' w' number made₀ made₁ total₀ total₁ until₀ until₁
  noted_of {number} {made₀} {made₁} {total₀} {total₁} {until₀} {until₁} n =
      subst (λ x. MergeNoted x c' w' number made₀ made₁ total₀ total₁ until₀ until₁) qa
      (subst (λ x. MergeNoted a x w' number made₀ made₁ total₀ total₁ until₀ until₁) qc
      (subst (λ x. MergeNoted a c x number made₀ made₁ total₀ total₁ until₀ until₁) qw n))

-- What was noted in the arrays, place by place.
module _ {a c w : ℕ} (j : ℕ) {made₀ made₁ total₀ total₁ until₀ until₁ : List ℕ} (asked : NoteAsked a c w (j + 1) made₀ total₀ until₀)
    (n : MergeNoted a c w (j + 1) made₀ made₁ total₀ total₁ until₀ until₁) where
  abbrev one : ℕ
  one = get_or made₀ a 0

  abbrev other : ℕ
  other = get_or made₀ c 0

  abbrev until_first : List ℕ
  until_first = set until₀ one (j + 1)

  abbrev until_second : List ℕ
  until_second = set until_first other (j + 1)

  first_room : length until_first ≡ length until₀
  first_room = length-set until₀ one (j + 1)

  second_room : length until_second ≡ length until_first
  second_room = length-set until_first other (j + 1)

  -- before the merge's own place is written
  until_before : (i : ℕ) → i ≤ j → at until₁ i ≡ at until_second i
  until_before i h = ap (λ l. get_or l i 0) n.until_is ∙ get_or-set_other until_second (j + 1) i 256 0 (omega arith)

  until_at_other : at until_second other ≡ j + 1
  until_at_other = get_or-set_same until_first other (j + 1) 0 (omega (arith, first_room, asked.other_before, asked.until_room))

  until_at_one : at until_second one ≡ j + 1
  until_at_one =
      after_store (λ k x. x ≡ j + 1) until_first other (j + 1) one (omega (arith, first_room, asked.other_before, asked.until_room)) refl
      (λ away. get_or-set_same until₀ one (j + 1) 0 (omega (arith, asked.one_before, asked.until_room)))

  pub noted_places : Noted a c w j (at made₀) (at made₁) (at total₀) (at total₁) (at until₀) (at until₁)
  noted_places =
      record {
        total_new = ap (λ l. get_or l (j + 1) 0) n.total_is ∙ get_or-set_same total₀ (j + 1) (w + (at total₀ one + at total₀ other)) 0 asked.total_room;
        total_old = λ i h. ap (λ l. get_or l i 0) n.total_is ∙ get_or-set_other total₀ (j + 1) i (w + (at total₀ one + at total₀ other)) 0 (omega arith);
        until_new = ap (λ l. get_or l (j + 1) 0) n.until_is ∙ get_or-set_same until_second (j + 1) 256 0 (omega (arith, first_room, second_room, asked.until_room));
        until_one = until_before one (omega (arith, asked.one_before)) ∙ until_at_one;
        until_other = until_before other (omega (arith, asked.other_before)) ∙ until_at_other;
        until_old =
            λ i h da dc. until_before i h ∙ get_or-set_other until_first other i (j + 1) 0 dc ∙ get_or-set_other until₀ one i (j + 1) 0 da;
        made_new = ap (λ l. get_or l a 0) n.made_is ∙ get_or-set_same made₀ a (j + 1) 0 asked.one_label;
        made_old = λ v away. ap (λ l. get_or l v 0) n.made_is ∙ get_or-set_other made₀ a v (j + 1) 0 away;
      }

  -- Places behind the merge's number are as they were.
  pub noted_only : (m : ℕ) → j + 1 < m → OnlyFirst m total₀ total₁ × OnlyFirst m until₀ until₁
  noted_only m h = (
    rw n.total_is (only_first_store (only_first_none m total₀) (j + 1) (w + (at total₀ one + at total₀ other)) h),
    rw n.until_is
        (only_first_store
        (only_first_store (only_first_store (only_first_none m until₀) one (j + 1) (omega (arith, asked.one_before))) other (j + 1) (omega (arith, asked.other_before)))
        (j + 1) 256 h),
  )
