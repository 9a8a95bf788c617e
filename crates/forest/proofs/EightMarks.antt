-- Eight marks as one word: four fields of two bytes, each of them 257 exactly where both of its marks are 1.
-- Marks that are passed eight at a time, and the rest behind them.
-- Assumes nothing.
use Prim.Native.Nat.{ℕ, ◌+◌, ◌-◌, ◌*◌, ◌%◌, ◌<◌, ◌≤◌, ◌^◌}
use mathlib.Core.Path.{◌≡◌, refl, sym, ap, ◌∙◌}
use mathlib.Core.Logic.{◌↔◌}
use mathlib.Core.Bool.{Bool, true, false, false≢true}
use mathlib.Core.List.{List, ◌++◌, append_assoc}
use native.Mathlib.Omega.{arith}
use native.Mathlib.Decide.{dec_lt}
use lib.ListN.{length, get_or, take, drop, length-append, get_or-append}
use lib.Seq.{get_or-take, get_or-append_right, get_or-append-add, length-take-le, drop_at}
use borrow.Author.Count.{below_none, below_more}
use Rattle.std.specs.Bool.{MatchBool}
use Rattle.std.specs.List.{AllWithin, HoldsAt}
use Rattle.graph.specs.Bytes.{u16_at, Reads}
use Rattle.forest.specs.Marks.{AllMarked}

module _ (marks : List ℕ) (bytes : (v : ℕ) → get_or marks v 0 < 256) where
  -- Two vertices more are marked where their field is 257, since no byte reaches 256 ..
  pair_more : (v : ℕ) → AllMarked marks v → u16_at marks v ≡ 257 → AllMarked marks (v + 1 + 1)
  unfolding u16_at
  pair_more v all pair = below_more _ (v + 1) (below_more _ v all (omega (arith, pair, bytes v))) (omega (arith, pair, bytes v))

  -- .. and the field of two marked vertices is 257.
  pair_of : (v : ℕ) → v + 2 ≤ 8 → AllMarked marks 8 → u16_at marks v ≡ 257
  unfolding u16_at
  pair_of v inside all = omega (arith, all v (omega arith), all (v + 1) (omega arith))

  pub word_of_marks : {a b c d : ℕ} → Reads (u16_at marks 0) (2 ^ 16) a → Reads (u16_at marks 2) (2 ^ 16) b → Reads (u16_at marks 4) (2 ^ 16) c
      → Reads (u16_at marks 6) (2 ^ 16) d → (a + 65536 * b + 4294967296 * (c + 65536 * d) ≡ 72340172838076673) ↔ AllMarked marks 8
  word_of_marks at_0 at_2 at_4 at_6 = (
    λ word. pair_more 6 (pair_more 4 (pair_more 2 (pair_more 0 (below_none _) (omega arith)) (omega arith)) (omega arith)) (omega arith),
    λ all. omega (arith, pair_of 0 (omega arith) all, pair_of 2 (omega arith) all, pair_of 4 (omega arith) all, pair_of 6 (omega arith) all),
  )

-- Marks one behind the other: all are marked exactly where those of each part are.
module _ (xs ys : List ℕ) where
  both_marked : AllMarked xs (length xs) → AllMarked ys (length ys) → AllMarked (xs ++ ys) (length (xs ++ ys))
  both_marked first second i h = go (dec_lt i (length xs))
    where
      go : Dec (i < length xs) → get_or (xs ++ ys) i 0 ≡ 1
      go (yes p) = get_or-append xs ys 0 i p ∙ first i p
      go (no p) = get_or-append_right xs ys i 0 (omega arith) ∙ second (i - length xs) (omega (arith, length-append xs ys))

  first_marked : AllMarked (xs ++ ys) (length (xs ++ ys)) → AllMarked xs (length xs)
  first_marked all i h = sym (get_or-append xs ys 0 i h) ∙ all i (omega (arith, length-append xs ys))

  second_marked : AllMarked (xs ++ ys) (length (xs ++ ys)) → AllMarked ys (length ys)
  second_marked all i h = sym (get_or-append-add xs ys i 0) ∙ all (length xs + i) (omega (arith, length-append xs ys))

-- Of the first n marks all but the rest were passed, eight at a time, and are marked.
pub record EightsPassed (marks : List ℕ) (n : ℕ) (rest : List ℕ) : Type 0 where
  pub front : List ℕ
  pub parts : take n marks ≡ front ++ rest
  pub marked : AllMarked front (length front)
  pub eights : ℕ
  pub count : length front ≡ 8 * eights

-- The first n marks, as a list of their own.
module _ (marks : List ℕ) (n : ℕ) (inside : n ≤ length marks) where
  of_first : AllMarked (take n marks) (length (take n marks)) → AllMarked marks n
  of_first all i h = sym (get_or-take n marks i 0 h) ∙ all i (omega (arith, length-take-le n marks inside))

  to_first : AllMarked marks n → AllMarked (take n marks) (length (take n marks))
  to_first all i h =
      let l : i < n = omega (arith, length-take-le n marks inside) in
      get_or-take n marks i 0 l ∙ all i l

module _ {marks : List ℕ} {n : ℕ} {rest : List ℕ} (inside : n ≤ length marks) (p : EightsPassed marks n rest) where
  rest_marked : AllMarked marks n → AllMarked rest (length rest)
  rest_marked all = second_marked p.front rest (rw p.parts at (to_first marks n inside all))

  -- Where all n are marked, so are the next eight,
  pub next_marked : (eight more : List ℕ) → rest ≡ eight ++ more → length eight ≡ 8 → AllMarked marks n → AllMarked eight 8
  next_marked eight more q size all = rw (← size) (first_marked eight more (rw q at (rest_marked all)))

  -- and once these are seen, they are passed too.
  pub eight_passed : (eight more : List ℕ) → rest ≡ eight ++ more → length eight ≡ 8 → AllMarked eight 8 → EightsPassed marks n more
  eight_passed eight more q size now =
      record {
        front = p.front ++ eight;
        parts = p.parts ∙ ap (λ l. p.front ++ l) q ∙ sym (append_assoc p.front eight more);
        marked = both_marked p.front eight p.marked (rw size now);
        eights = p.eights + 1;
        count = omega (arith, length-append p.front eight, p.count, size);
      }

  -- What is left at the end is all that is beyond the eights: it says whether all are marked.
  pub rest_says : {left : List ℕ} (r : Bool) → length rest < 8 → left ≡ drop (length (take n marks) - length (take n marks) % 8) (take n marks)
      → MatchBool r (AllWithin (λ x. x ≡ 1) left 0 (length left)) ((k : ℕ) × (k < length left) × HoldsAt (λ x. x ≡ 1 → ⊥) left k)
      → (r ≡ true) ↔ AllMarked marks n
  rest_says {left} r few q says = go r (rw left_is at says)
    where
      whole : length (take n marks) ≡ 8 * p.eights + length rest
      whole = omega (arith, ap length p.parts, length-append p.front rest, p.count)

      passed : length (take n marks) - length (take n marks) % 8 ≡ length p.front
      passed = omega (arith, whole, few, p.count)

      left_is : left ≡ rest
      left_is = q ∙ ap (λ k. drop k (take n marks)) passed ∙ ap (drop (length p.front)) p.parts ∙ drop_at p.front rest (length p.front) refl

      go : (r : Bool) → MatchBool r (AllWithin (λ x. x ≡ 1) rest 0 (length rest)) ((k : ℕ) × (k < length rest) × HoldsAt (λ x. x ≡ 1 → ⊥) rest k)
          → (r ≡ true) ↔ AllMarked marks n
      go true all = (
        λ _. of_first marks n inside (rw p.parts (both_marked p.front rest p.marked (λ i h. all i 0 (omega arith) h))),
        λ _. refl,
      )
      go false (k, h, away) = (λ t. absurd (false≢true t), λ all. absurd (away 0 (rest_marked all k h)))
