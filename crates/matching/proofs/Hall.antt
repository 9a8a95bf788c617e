-- Hall's theorem, from the test: where it finds no assignment, some set of parts has fewer allowed roots than parts.
-- By induction on the parts. With a root taken by the first part, some set of the others is short: it is short without that, or tight and
-- wants the root. The tight sets are tight together, and with the first part added, whose roots they all want, they are short.
-- Assumes nothing.
use Prim.Native.Nat.{ℕ, zero, suc, ◌+◌, ◌≤◌, ◌<◌}
use mathlib.Core.Path.{◌≡◌, refl, sym, ◌∙◌}
use mathlib.Core.Logic.{◌⊎◌, inl, inr}
use mathlib.Core.Bool.{Bool, true, false, cond, ◌&&◌, ◌||◌, true≢false}
use mathlib.Core.List.Memᴰ
use mathlib.Core.List.{List, [], ◌∷◌, map}
use native.Mathlib.Omega.{arith}
use lib.Dec.{eqb}
use lib.ListN.{get_or}
use borrow.Author.Tests.{eqb-true, eq-eqb}
use Rattle.lists.specs.Count.{count, any_below, from, below}
use Rattle.lists.specs.Lists.{without}
use Rattle.lists.specs.Member.{◌∈◌}
use Rattle.lists.proofs.Member.{either, found_any, of_without}
use Rattle.lists.proofs.Every.{first_true, second_true, one_true, left_true, right_true}
use Rattle.lists.proofs.AnyBelow.{any_below_found}
use Rattle.lists.proofs.Below.{of_below, in_below}
use Rattle.lists.proofs.Pigeonhole.{count_same}
use Rattle.lists.proofs.Fewer.{count_no_more, count_fewer}
use Rattle.lists.proofs.Runs.{get_or_map_below, length_map_below}
use Rattle.matching.specs.Assignment.{IsDeficient, marked}
use Rattle.matching.specs.Assignable.{assignable}
use Rattle.matching.proofs.TightSets.{Parts, wanted, Short, Tight, wants, wanted_by, wanted_more, empty_tight, taken_root, together_tight}

module _ (allowed : ℕ → ℕ → Bool) (p y : ℕ) where
  -- some set of parts from a on is short
  abbrev SomeShort : ℕ → List ℕ → Type 0
  SomeShort a free = (set : Parts) × Short allowed p y a free set

  -- a tight set of parts from a on wants each of these roots that is allowed to the part
  record WantsAll (part a : ℕ) (free roots : List ℕ) (set : Parts) : Type 0 where
    tight : Tight allowed p y a free set
    all : (j : ℕ) → j ∈ roots → allowed part j ≡ true → wanted allowed p y free set j ≡ true

  abbrev SomeWantsAll : ℕ → ℕ → List ℕ → List ℕ → Type 0
  SomeWantsAll part a free roots = (set : Parts) × WantsAll part a free roots set

  -- two such sets, for one root and for others
  both_want : {part a j : ℕ} {free roots : List ℕ} → SomeWantsAll part a free (j ∷ []) → SomeWantsAll part a free roots → SomeShort a free ⊎ SomeWantsAll part a free (j ∷ roots)
  both_want {part} {a} {j} {free} {roots} (s, ws) (t, wt) = go (together_tight allowed p y ws.tight wt.tight)
    where
      all' : (k : ℕ) → k ∈ (j ∷ roots) → allowed part k ≡ true → wanted allowed p y free (λ i. s i || t i) k ≡ true
      all' k (Memᴰ.head e) q = wanted_more allowed p y free s (λ i. s i || t i) (λ i. left_true (t i)) k (ws.all k (Memᴰ.head e) q)
      all' k (Memᴰ.tail m) q = wanted_more allowed p y free t (λ i. s i || t i) (λ i. right_true (s i)) k (wt.all k m q)

      go : Short allowed p y a free (λ i. s i && t i) ⊎ Tight allowed p y a free (λ i. s i || t i) → SomeShort a free ⊎ SomeWantsAll part a free (j ∷ roots)
      go (inl d) = inl (_, d)
      go (inr d) = inr (_, record { tight = d; all = all' })

  -- the test fails for the parts from a on, n of them, once the part has taken j
  abbrev Fails : ℕ → ℕ → ℕ → List ℕ → ℕ → Type 0
  Fails part a n free j = (allowed part j && assignable allowed (from a n) (without j free)) ≡ false

  -- where it fails, some set is short
  abbrev FailsShort : ℕ → ℕ → Type 0
  FailsShort a n = (free : List ℕ) → ((j : ℕ) → j ∈ free → j < y) → assignable allowed (from a n) free ≡ false → SomeShort a free

  module _ (part a n : ℕ) (free : List ℕ) (ih : FailsShort a n) (inside : (j : ℕ) → j ∈ free → j < y) where
    -- so it is with one root taken, or a tight set wants the root
    one_root : (j : ℕ) → j < y → Fails part a n free j → SomeShort a free ⊎ SomeWantsAll part a free (j ∷ [])
    one_root j h fails = go (either (allowed part j))
      where
        only : (set : Parts) → (allowed part j ≡ true → wanted allowed p y free set j ≡ true) → (k : ℕ) → k ∈ (j ∷ []) → allowed part k ≡ true → wanted allowed p y free set k ≡ true
        only set has k (Memᴰ.head e) q = rw e (has (rw e at q))
        only set has k (Memᴰ.tail m) q = absurd (Memᴰ.not-nil m)

        rest_fails : {r : Bool} → allowed part j ≡ true → (allowed part j && r) ≡ false → r ≡ false
        rest_fails e f = rw e at f

        one_of : {set : Parts} → Short allowed p y a free set ⊎ (Tight allowed p y a free set × (wanted allowed p y free set j ≡ true)) → SomeShort a free ⊎ SomeWantsAll part a free (j ∷ [])
        one_of (inl d) = inl (_, d)
        one_of {set} (inr (d, w)) = inr (set, record { tight = d; all = only set (λ _. w) })

        go : (allowed part j ≡ true) ⊎ (allowed part j ≡ false) → SomeShort a free ⊎ SomeWantsAll part a free (j ∷ [])
        go (inr q) = inr (_, record { tight = empty_tight allowed p y a free; all = only (λ _. false) (λ t. absurd (true≢false (sym t ∙ q))) })
        go (inl q) = one_of (taken_root allowed p y h (ih (without j free) (λ k m. inside k (of_without j free m).0) (rest_fails q fails)).1)

    -- so it is with each of several roots taken, or a tight set wants them all
    each_root : (roots : List ℕ) → ((j : ℕ) → j ∈ roots → (j < y) × Fails part a n free j) → SomeShort a free ⊎ SomeWantsAll part a free roots
    each_root [] fails = inr (_, record { tight = empty_tight allowed p y a free; all = λ j m. absurd (Memᴰ.not-nil m) })
    each_root (j ∷ roots) fails =
        let (h, f) = fails j (Memᴰ.head refl) in
        go (one_root j h f) (each_root roots (λ k m. fails k (Memᴰ.tail m)))
      where
        go : SomeShort a free ⊎ SomeWantsAll part a free (j ∷ []) → SomeShort a free ⊎ SomeWantsAll part a free roots → SomeShort a free ⊎ SomeWantsAll part a free (j ∷ roots)
        go (inl d) r = inl d
        go (inr w) (inl d) = inl d
        go (inr w) (inr v) = both_want w v

  -- a tight set of later parts that wants all roots allowed to a part is short with that part added
  add_part : {part : ℕ} {free : List ℕ} {s : Parts} → part < p → WantsAll part (suc part) free free s → Short allowed p y part free (λ i. eqb i part || s i)
  add_part {part} {free} {s} h u = record { from_on = λ i e. on i (one_true (eqb i part) (s i) e); fewer = omega (arith, u.tight.no_more, more, same_roots) }
    where
      on : (i : ℕ) → (eqb i part ≡ true) ⊎ (s i ≡ true) → part ≤ i
      on i (inl e) = omega (arith, eqb-true i part e)
      on i (inr e) = omega (arith, u.tight.from_on i e)

      out : (s part ≡ true) ⊎ (s part ≡ false) → s part ≡ false
      out (inl e) = absurd (omega (arith, u.tight.from_on part e))
      out (inr e) = e

      more : count p s < count p (λ i. eqb i part || s i)
      more = count_fewer p s (λ i. eqb i part || s i) (λ i l. right_true (eqb i part)) part h (out (either (s part))) (left_true (s part) (eq-eqb part part refl))

      pick : {i j : ℕ} → j ∈ free → i < p → allowed i j ≡ true → (eqb i part ≡ true) ⊎ (s i ≡ true) → wanted allowed p y free s j ≡ true
      pick {i} {j} m b q (inl e) = u.all j m (rw (eqb-true i part e) at q)
      pick m b q (inr e) = wants allowed p y free s b m e q

      had : (j : ℕ) → wanted allowed p y free (λ i. eqb i part || s i) j ≡ true → wanted allowed p y free s j ≡ true
      had j t = let (m, (i, b, e, q)) = wanted_by allowed p y free (λ i. eqb i part || s i) j t in pick m b q (one_true (eqb i part) (s i) e)

      same_roots : count y (wanted allowed p y free (λ i. eqb i part || s i)) ≤ count y (wanted allowed p y free s)
      same_roots = count_no_more y (wanted allowed p y free (λ i. eqb i part || s i)) (wanted allowed p y free s) (λ j l. had j)

  -- where the test fails, some set is short
  fails_short : (n a : ℕ) → a + n ≡ p → FailsShort a n
  unfolding assignable from
  fails_short zero a sum free inside t = absurd (true≢false t)
  fails_short (suc n) a sum free inside t = go (each_root a (suc a) n free (fails_short n (suc a) (omega arith)) inside free (λ j m. (inside j m, fails j m)))
    where
      fails : (j : ℕ) → j ∈ free → Fails a (suc a) n free j
      fails j m = pick (either (allowed a j && assignable allowed (from (suc a) n) (without j free)))
        where
          pick : ((allowed a j && assignable allowed (from (suc a) n) (without j free)) ≡ true) ⊎ Fails a (suc a) n free j → Fails a (suc a) n free j
          pick (inl q) = absurd (true≢false (sym (found_any (λ k. allowed a k && assignable allowed (from (suc a) n) (without k free)) m q) ∙ t))
          pick (inr q) = q

      earlier : SomeShort (suc a) free → SomeShort a free
      earlier (s, d) = (s, record { from_on = λ i e. omega (arith, d.from_on i e); fewer = d.fewer })

      go : SomeShort (suc a) free ⊎ SomeWantsAll a (suc a) free free → SomeShort a free
      go (inl d) = earlier d
      go (inr (s, w)) = (_, add_part (omega arith) w)

  -- a short set, written as marks, is deficient
  module _ {a : ℕ} {set : Parts} (s : Short allowed p y a (below y) set) where
    abbrev marks : List ℕ
    marks = map (λ i. cond (set i) 1 0) (below p)

    mark_at : (i : ℕ) → i < p → get_or marks i 0 ≡ cond (set i) 1 0
    mark_at i h = get_or_map_below (λ i. cond (set i) 1 0) 0 p i h

    marks_set : (i : ℕ) → i < p → marked marks i ≡ set i
    marks_set i h = rw (mark_at i h) (test (set i))
      where
        test : (b : Bool) → eqb (cond b 1 0) 1 ≡ b
        test true = refl
        test false = refl

    marks_want : (j : ℕ) → j < y → any_below p (λ i. marked marks i && allowed i j) ≡ true → wanted allowed p y (below y) set j ≡ true
    marks_want j l t =
        let (i, h, q) = any_below_found (λ i. marked marks i && allowed i j) p t in
        wants allowed p y (below y) set h (in_below y l) (sym (marks_set i h) ∙ first_true (marked marks i) (allowed i j) q) (second_true (marked marks i) (allowed i j) q)

    short_deficient : IsDeficient p y allowed marks
    short_deficient =
        record {
          each = length_map_below (λ i. cond (set i) 1 0) p;
          mark = λ i h. rw (mark_at i h) (small (set i));
          fewer =
              omega (
                arith,
                s.fewer,
                count_same p (marked marks) set marks_set,
                count_no_more y (λ j. any_below p (λ i. marked marks i && allowed i j)) (wanted allowed p y (below y) set) marks_want,
              );
        }
      where
        small : (b : Bool) → cond b 1 0 < 2
        small true = omega arith
        small false = omega arith

-- Where the test finds no assignment, some set of parts is deficient.
pub unassignable_deficient : (p y : ℕ) (allowed : ℕ → ℕ → Bool) → assignable allowed (below p) (below y) ≡ false → (marks : List ℕ) × IsDeficient p y allowed marks
unfolding below
unassignable_deficient p y allowed t = let (s, d) = fails_short allowed p y p 0 (omega arith) (below y) (λ j m. of_below y m) t in (_, short_deficient allowed p y d)
