-- Sets of parts against the free roots that are allowed to them. A set is short where these are fewer than its parts, and tight where
-- they are no more. Two tight sets are tight together, or what they share is short.
-- Assumes nothing.
use Prim.Native.Nat.{ℕ, ◌+◌, ◌≤◌, ◌<◌}
use mathlib.Core.Path.{◌≡◌, sym}
use mathlib.Core.Logic.{◌⊎◌, inl, inr}
use mathlib.Core.Bool.{Bool, true, false, ◌&&◌, ◌||◌, false≢true}
use mathlib.Core.List.{List}
use native.Mathlib.Omega.{arith}
use lib.Dec.{ltb}
use borrow.Author.Tests.{ltb-true, ltb-false}
use Rattle.lists.specs.Count.{count, any_below}
use Rattle.lists.specs.Lists.{member, without}
use Rattle.lists.specs.Member.{◌∈◌}
use Rattle.lists.proofs.Member.{either, member_in, in_member, in_without}
use Rattle.lists.proofs.Every.{both_true, first_true, second_true, one_true, left_true, right_true}
use Rattle.lists.proofs.AnyBelow.{any_below_found, found_any_below}
use Rattle.lists.proofs.Pigeonhole.{but, of_but, but_absent, count_but, count_same}
use Rattle.lists.proofs.Fewer.{count_no_more, count_none}
use Rattle.lists.proofs.EitherBoth.{count_either_both}

-- A set of parts, as a test.
abbrev pub Parts : Type 0
Parts = ℕ → Bool

-- All parts are below p, all roots below y.
module _ (allowed : ℕ → ℕ → Bool) (p y : ℕ) where
  -- the root is free, and allowed to some part of the set
  pub wanted : List ℕ → Parts → ℕ → Bool
  wanted free set j = member j free && any_below p (λ i. set i && allowed i j)

  -- a set of parts from a on, with fewer wanted roots than parts
  pub record Short (a : ℕ) (free : List ℕ) (set : Parts) : Type 0 where
    pub from_on : (i : ℕ) → set i ≡ true → a ≤ i
    pub fewer : count y (wanted free set) < count p set

  -- the same, with no more wanted roots than parts
  pub record Tight (a : ℕ) (free : List ℕ) (set : Parts) : Type 0 where
    pub from_on : (i : ℕ) → set i ≡ true → a ≤ i
    pub no_more : count y (wanted free set) ≤ count p set

  -- a free root that is allowed to a part of the set is wanted, and the other way round
  pub wants : (free : List ℕ) (set : Parts) {i j : ℕ} → i < p → j ∈ free → set i ≡ true → allowed i j ≡ true → wanted free set j ≡ true
  unfolding wanted
  wants free set {i} {j} h m s t = both_true (in_member m) (found_any_below (λ k. set k && allowed k j) p h (both_true s t))

  pub wanted_by : (free : List ℕ) (set : Parts) (j : ℕ) → wanted free set j ≡ true → (j ∈ free) × ((i : ℕ) × (i < p) × (set i ≡ true) × (allowed i j ≡ true))
  unfolding wanted
  wanted_by free set j t =
      let some_part = any_below p (λ k. set k && allowed k j) in
      let (i, h, q) = any_below_found (λ k. set k && allowed k j) p (second_true (member j free) some_part t) in
      (member_in j free (first_true (member j free) some_part t), (i, h, first_true (set i) (allowed i j) q, second_true (set i) (allowed i j) q))

  -- a larger set wants no less
  pub wanted_more : (free : List ℕ) (set more : Parts) → ((i : ℕ) → set i ≡ true → more i ≡ true) → (j : ℕ) → wanted free set j ≡ true → wanted free more j ≡ true
  wanted_more free set more sub j t = let (m, (i, h, s, q)) = wanted_by free set j t in wants free more h m (sub i s) q

  -- the empty set is tight
  pub empty_tight : (a : ℕ) (free : List ℕ) → Tight a free (λ _. false)
  empty_tight a free =
      record {
        from_on = λ i q. absurd (false≢true q);
        no_more = omega (arith, count_none y, count_no_more y (wanted free (λ _. false)) (λ _. false) (λ j l q. nothing (wanted_by free (λ _. false) j q).1));
      }
    where
      nothing : {j : ℕ} → (i : ℕ) × (i < p) × (false ≡ true) × (allowed i j ≡ true) → false ≡ true
      nothing (i, h, e, q) = e

  -- once j is taken, a set wants all that it wanted, but j
  wanted_without : (j : ℕ) (free : List ℕ) (set : Parts) → count y (but j (wanted free set)) ≤ count y (wanted (without j free) set)
  wanted_without j free set = count_no_more y (but j (wanted free set)) (wanted (without j free) set) (λ k l t. still k (of_but (wanted free set) j k t))
    where
      still : (k : ℕ) → (wanted free set k ≡ true) × (k ≡ j → ⊥) → wanted (without j free) set k ≡ true
      still k (t, away) = let (m, (i, b, q, r)) = wanted_by free set k t in wants (without j free) set b (in_without j m (λ e. away (sym e))) q r

  -- a set that is short once j is taken is short before, or tight and wants j
  pub taken_root : {a j : ℕ} {free : List ℕ} {set : Parts} → j < y → Short a (without j free) set → Short a free set ⊎ (Tight a free set × (wanted free set j ≡ true))
  taken_root {a} {j} {free} {set} h s = go (either (wanted free set j))
    where
      go : (wanted free set j ≡ true) ⊎ (wanted free set j ≡ false) → Short a free set ⊎ (Tight a free set × (wanted free set j ≡ true))
      go (inl t) = inr (record { from_on = s.from_on; no_more = omega (arith, s.fewer, count_but y (wanted free set) j h t, wanted_without j free set) }, t)
      go (inr t) =
          let same = count_same y (but j (wanted free set)) (wanted free set) (λ k l. but_absent (wanted free set) j k t) in
          inl (record { from_on = s.from_on; fewer = omega (arith, s.fewer, same, wanted_without j free set) })

  -- two tight sets
  module _ {a : ℕ} {free : List ℕ} {s t : Parts} (first : Tight a free s) (second : Tight a free t) where
    shared : Parts
    shared i = s i && t i

    union : Parts
    union i = s i || t i

    -- the union wants what one of them wants
    by_one : (j : ℕ) → wanted free union j ≡ true → (wanted free s j || wanted free t j) ≡ true
    unfolding union
    by_one j q = let (m, (i, h, e, r)) = wanted_by free union j q in from_one m h r (one_true (s i) (t i) e)
      where
        from_one : {i : ℕ} → j ∈ free → i < p → allowed i j ≡ true → (s i ≡ true) ⊎ (t i ≡ true) → (wanted free s j || wanted free t j) ≡ true
        from_one m h r (inl e) = left_true (wanted free t j) (wants free s h m e r)
        from_one m h r (inr e) = right_true (wanted free s j) (wants free t h m e r)

    -- what they share wants what both of them want
    by_both : (j : ℕ) → wanted free shared j ≡ true → (wanted free s j && wanted free t j) ≡ true
    unfolding shared
    by_both j q =
        both_true (wanted_more free shared s (λ i e. first_true (s i) (t i) e) j q) (wanted_more free shared t (λ i e. second_true (s i) (t i) e) j q)

    sums : count y (wanted free union) + count y (wanted free shared) ≤ count p union + count p shared
    unfolding union shared
    sums = omega (
      arith,
      count_no_more y (wanted free union) (λ j. wanted free s j || wanted free t j) (λ j l. by_one j),
      count_no_more y (wanted free shared) (λ j. wanted free s j && wanted free t j) (λ j l. by_both j),
      count_either_both y (wanted free s) (wanted free t),
      count_either_both p s t,
      first.no_more,
      second.no_more,
    )

    -- they are tight together, or what they share is short
    pub together_tight : Short a free (λ i. s i && t i) ⊎ Tight a free (λ i. s i || t i)
    unfolding union shared
    together_tight = go (either (ltb (count y (wanted free shared)) (count p shared)))
      where
        in_one : (i : ℕ) → (s i ≡ true) ⊎ (t i ≡ true) → a ≤ i
        in_one i (inl q) = first.from_on i q
        in_one i (inr q) = second.from_on i q

        go : (ltb (count y (wanted free shared)) (count p shared) ≡ true) ⊎ (ltb (count y (wanted free shared)) (count p shared) ≡ false)
            → Short a free (λ i. s i && t i) ⊎ Tight a free (λ i. s i || t i)
        go (inl q) = inl (record { from_on = λ i e. first.from_on i (first_true (s i) (t i) e); fewer = ltb-true _ _ q })
        go (inr q) =
            let h = ltb-false (count y (wanted free shared)) (count p shared) q in
            inr (record { from_on = λ i e. in_one i (one_true (s i) (t i) e); no_more = omega (arith, sums) })
