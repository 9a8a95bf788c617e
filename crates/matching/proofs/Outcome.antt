-- What a search's two ends come to: part i has a root that is allowed, and with the last part there is an assignment;
-- or the parts reached are a deficient set.
-- Assumes nothing.
use Prim.Native.Nat.{ℕ, ◌+◌, ◌<◌, ◌≤◌}
use mathlib.Core.Path.{◌≡◌, ◌∙◌, sym, ap}
use mathlib.Core.Logic.{⊎_elim}
use mathlib.Core.Bool.{Bool, true, ◌&&◌}
use mathlib.Core.List.{List}
use native.Mathlib.Omega.{arith}
use lib.ListN.{length, get_or, take}
use lib.Seq.{get_or-take, length-take-le}
use borrow.Author.Tests.{eqb-true, eq-eqb}
use Rattle.lists.specs.Count.{count, any_below}
use Rattle.lists.proofs.Every.{first_true, second_true}
use Rattle.lists.proofs.AnyBelow.{any_below_found}
use Rattle.lists.proofs.AfterStore.{at_or_not}
use Rattle.lists.proofs.Pigeonhole.{count_into_missing}
use Rattle.matching.specs.Assignment.{IsAssignment, IsDeficient, marked}
use Rattle.matching.specs.Marks.{Marks}
use Rattle.matching.specs.State.{none, Mirror, May, Edges, Closed, Exchanged}

-- The parts that a search has reached are parts.
pub closed_part : {p y i t : ℕ} {allowed : ℕ → ℕ → Bool} {owner parts : List ℕ} → Closed y allowed i owner parts t → i < p → (a : ℕ) → a < t → get_or parts a 0 < p
closed_part {p} {t = t} {parts = parts} closed is_part a h =
    at_or_not (λ x. x < t → get_or parts x 0 < p) 0 a (λ _. omega (arith, closed.first)) (λ ne h. omega (arith, closed.behind a (omega arith) h)) h

-- After the exchange each part's root is allowed to it: it had the root before, or has reached it.
pub exchanged_may : {i : ℕ} (y : ℕ) (allowed : ℕ → ℕ → Bool) {parts from before owner after : List ℕ} → Exchanged i parts from before owner after
    → Edges y allowed parts from → May y allowed i before → May y allowed (i + 1) after
exchanged_may y allowed {after = after} e edges may k h =
    ⊎_elim
    (λ had. rw had.1 (may k had.0))
    (λ got. let q = edges (get_or after k 0) (e.mirror.is_root k h) got.0 in (q.0, ap (λ x. allowed x (get_or after k 0)) (sym got.1) ∙ q.1))
    (e.by k h)

-- Once all p parts have roots, these are an assignment.
pub mirror_assignment : {p y : ℕ} (allowed : ℕ → ℕ → Bool) {owner roots : List ℕ} → Mirror p owner roots → May y allowed p roots → p ≤ length roots
    → IsAssignment p y allowed (take p roots)
mirror_assignment {p} {y} allowed {owner} {roots} mirror may fits =
    let at : (k : ℕ) → k < p → get_or (take p roots) k 0 ≡ get_or roots k 0 = λ k h. get_or-take p roots k 0 h in
    record {
      each = length-take-le p roots fits;
      is_root = λ k h. rw (at k h) (may k h).0;
      may = λ k h. rw (at k h) (may k h).1;
      apart = λ j k hj hk q. sym (mirror.owned j hj) ∙ ap (λ r. get_or owner r 0) (sym (at j hj) ∙ q ∙ at k hk) ∙ mirror.owned k hk;
    }

-- The parts reached, where each root allowed to one of them is that of one behind the first.
module _ {p y i t : ℕ} {allowed : ℕ → ℕ → Bool} {owner parts roots before after : List ℕ}
    (closed : Closed y allowed i owner parts t) (mirror : Mirror i owner roots) (marks : Marks p t parts before after)
    (few : y ≤ 32) (is_part : i < p) (parts_few : p ≤ none) (fits : p ≤ length after) where
  one_of : (k : ℕ) → k < p → marked (take p after) k ≡ true → get_or after k 0 ≡ 1
  one_of k h m = sym (get_or-take p after k 0 h) ∙ eqb-true (get_or (take p after) k 0) 1 m

  mark_of : (k : ℕ) → k < p → get_or after k 0 ≡ 1 → marked (take p after) k ≡ true
  mark_of k h one = eq-eqb (get_or (take p after) k 0) 1 (get_or-take p after k 0 h ∙ one)

  -- The root is allowed to a part of the set.
  abbrev wanted : ℕ → Bool
  wanted r = any_below p (λ k. marked (take p after) k && allowed k r)

  owner_in : (r : ℕ) → r < y → wanted r ≡ true → (b : ℕ) × (0 < b) × (b < t) × (get_or owner r 0 ≡ get_or parts b 0)
  owner_in r h w =
      let k = any_below_found (λ k. marked (take p after) k && allowed k r) p w in
      let a = marks.only k.0 k.1 (one_of k.0 k.1 (first_true (marked (take p after) k.0) (allowed k.0 r) k.2)) in
      closed.closed a.0 r a.1 h (rw a.2 (second_true (marked (take p after) k.0) (allowed k.0 r) k.2))

  -- Its owner is before part i, and has it.
  owner_before : (r : ℕ) → r < y → wanted r ≡ true → get_or owner r 0 < i
  owner_before r h w = let b = owner_in r h w in omega (arith, b.3, closed.behind b.0 b.1 b.2)

  owner_has : (r : ℕ) → r < y → wanted r ≡ true → get_or roots (get_or owner r 0) 0 ≡ r
  owner_has r h w = (mirror.owner_of r (omega arith) (λ q. omega (arith, owner_before r h w))).1

  owner_marked : (r : ℕ) → r < y → wanted r ≡ true → (get_or owner r 0 < p) × (marked (take p after) (get_or owner r 0) ≡ true)
  owner_marked r h w =
      let b = owner_in r h w in
      let below : get_or owner r 0 < p = omega (arith, owner_before r h w) in
      (below, mark_of (get_or owner r 0) below (rw b.3 (marks.all b.0 b.2)))

  -- Sent to their owners, the roots allowed to the set miss part i, which is in it: they are fewer.
  fewer : count y wanted < count p (marked (take p after))
  fewer =
      count_into_missing wanted (λ r. get_or owner r 0) y p (marked (take p after))
      owner_marked
      (λ r s hr hs wr ws q. sym (owner_has r hr wr) ∙ ap (λ k. get_or roots k 0) q ∙ owner_has s hs ws)
      i is_part
      (mark_of i is_part (rw (sym closed.first) (marks.all 0 closed.some)))
      (λ r h w q. omega (arith, owner_before r h w))

  pub closed_deficient : IsDeficient p y allowed (take p after)
  closed_deficient =
      record {
        each = length-take-le p after fits;
        mark = λ k h. rw (get_or-take p after k 0 h) (marks.mark k h);
        fewer = omega (arith, fewer);
      }
