-- The test `assignable` says whether an assignment exists: what it picks part by part is one, and where there is one the
-- test can pick it.
-- Assumes nothing.
use Prim.Native.Nat.{ℕ, zero, suc, ◌+◌, ◌<◌}
use mathlib.Core.Path.{◌≡◌, refl, sym, ap}
use mathlib.Core.Logic.{◌↔◌}
use mathlib.Core.Bool.{Bool, true, ◌&&◌}
use mathlib.Core.List.{List, [], ◌∷◌}
use native.Mathlib.Omega.{arith}
use lib.ListN.{length, get_or}
use Rattle.lists.specs.Count.{from, below}
use Rattle.lists.specs.Lists.{without}
use Rattle.lists.specs.Member.{◌∈◌}
use Rattle.lists.proofs.Member.{any_found, found_any, of_without, in_without}
use Rattle.lists.proofs.Every.{both_true, first_true, second_true}
use Rattle.lists.proofs.Below.{of_below, in_below}
use Rattle.matching.specs.Assignment.{IsAssignment}
use Rattle.matching.specs.Assignable.{assignable}

module _ (allowed : ℕ → ℕ → Bool) where
  -- Parts a, a + 1, .., n of them, have roots of their own among the free ones.
  record Picks (a n : ℕ) (free roots : List ℕ) : Type 0 where
    each : length roots ≡ n
    is_free : (k : ℕ) → k < n → get_or roots k 0 ∈ free
    may : (k : ℕ) → k < n → allowed (a + k) (get_or roots k 0) ≡ true
    apart : (j k : ℕ) → j < n → k < n → get_or roots j 0 ≡ get_or roots k 0 → j ≡ k

  -- One part more, in front.
  pick : {a n j : ℕ} {free roots : List ℕ} → j ∈ free → allowed a j ≡ true → Picks (suc a) n (without j free) roots → Picks a (suc n) free (j ∷ roots)
  pick {a} {n} {j} {free} {roots} is ok p = record { each = ap suc p.each; is_free = is_free'; may = may'; apart = apart' }
    where
      is_free' : (k : ℕ) → k < suc n → get_or (j ∷ roots) k 0 ∈ free
      is_free' zero h = is
      is_free' (suc k) h = (of_without j free (p.is_free k (omega arith))).0

      may' : (k : ℕ) → k < suc n → allowed (a + k) (get_or (j ∷ roots) k 0) ≡ true
      may' zero h = let q : a + 0 ≡ a = omega arith in rw q ok
      may' (suc k) h = let q : a + suc k ≡ suc a + k = omega arith in rw q (p.may k (omega arith))

      apart' : (i k : ℕ) → i < suc n → k < suc n → get_or (j ∷ roots) i 0 ≡ get_or (j ∷ roots) k 0 → i ≡ k
      apart' zero zero hi hk q = refl
      apart' zero (suc k) hi hk q = absurd ((of_without j free (p.is_free k (omega arith))).1 q)
      apart' (suc i) zero hi hk q = absurd ((of_without j free (p.is_free i (omega arith))).1 (sym q))
      apart' (suc i) (suc k) hi hk q = ap suc (p.apart i k (omega arith) (omega arith) q)

  -- The parts after the first.
  unpick : {a n j : ℕ} {free roots : List ℕ} → Picks a (suc n) free (j ∷ roots) → Picks (suc a) n (without j free) roots
  unpick {a} {n} {j} {free} {roots} p =
      record {
        each = omega (arith, p.each);
        is_free = λ k h. in_without j (p.is_free (suc k) (omega arith)) (λ q. omega (arith, p.apart 0 (suc k) (omega arith) (omega arith) q));
        may = λ k h. let q : suc a + k ≡ a + suc k = omega arith in rw q (p.may (suc k) (omega arith));
        apart = λ i k hi hk q. omega (arith, p.apart (suc i) (suc k) (omega arith) (omega arith) q);
      }

  picked : (n a : ℕ) (free : List ℕ) → assignable allowed (from a n) free ≡ true → (roots : List ℕ) × Picks a n free roots
  unfolding assignable from
  picked zero a free yes' = ([], record { each = refl; is_free = λ k h. absurd (omega arith); may = λ k h. absurd (omega arith); apart = λ j k h. absurd (omega arith) })
  picked (suc n) a free yes' =
      let rest : ℕ → Bool = λ j. assignable allowed (from (suc a) n) (without j free) in
      let (j, is, ok) = any_found (λ j. allowed a j && rest j) free yes' in
      let (roots, p) = picked n (suc a) (without j free) (second_true (allowed a j) (rest j) ok) in
      (j ∷ roots, pick is (first_true (allowed a j) (rest j) ok) p)

  can_pick : (n a : ℕ) (free roots : List ℕ) → Picks a n free roots → assignable allowed (from a n) free ≡ true
  unfolding assignable from
  can_pick zero a free roots p = refl
  can_pick (suc n) a free [] p = absurd (omega (arith, p.each))
  can_pick (suc n) a free (j ∷ roots) p =
      let rest : ℕ → Bool = λ j. assignable allowed (from (suc a) n) (without j free) in
      let q : a + 0 ≡ a = omega arith in
      found_any (λ j. allowed a j && rest j) (p.is_free 0 (omega arith)) (both_true (rw q at (p.may 0 (omega arith))) (can_pick n (suc a) (without j free) roots (unpick p)))

  -- What is picked for the parts below p among the roots below y is an assignment, and the other way round.
  picks_assignment : {p y : ℕ} {roots : List ℕ} → Picks 0 p (below y) roots → IsAssignment p y allowed roots
  picks_assignment {p} {y} {roots} q =
      record {
        each = q.each;
        is_root = λ k h. of_below y (q.is_free k h);
        may = λ k h. let z : 0 + k ≡ k = omega arith in rw z at (q.may k h);
        apart = q.apart;
      }

  assignment_picks : {p y : ℕ} {roots : List ℕ} → IsAssignment p y allowed roots → Picks 0 p (below y) roots
  assignment_picks {p} {y} {roots} q =
      record {
        each = q.each;
        is_free = λ k h. in_below y (q.is_root k h);
        may = λ k h. let z : 0 + k ≡ k = omega arith in rw z (q.may k h);
        apart = q.apart;
      }

  pub assignable_some : (p y : ℕ) → assignable allowed (below p) (below y) ≡ true → (roots : List ℕ) × IsAssignment p y allowed roots
  unfolding below
  assignable_some p y yes' = let (roots, q) = picked p 0 (below y) yes' in (roots, picks_assignment q)

  pub some_assignable : {p y : ℕ} {roots : List ℕ} → IsAssignment p y allowed roots → assignable allowed (below p) (below y) ≡ true
  unfolding below
  some_assignable {p} {y} {roots} q = can_pick p 0 (below y) roots (assignment_picks q)

-- The test is passed exactly where an assignment exists.
pub assignable_iff : (p y : ℕ) (allowed : ℕ → ℕ → Bool) → (assignable allowed (below p) (below y) ≡ true) ↔ ((roots : List ℕ) × IsAssignment p y allowed roots)
assignable_iff p y allowed = (assignable_some allowed p y, λ q. some_assignable allowed q.1)
