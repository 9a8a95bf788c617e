-- `unions::deficient::some_allows` meets its contract: some number of the range passes where the root is allowed to some part of the set.
-- Assumes nothing.
use Prim.Native.Nat.{ℕ, ◌<◌}
use mathlib.Core.Path.{◌≡◌, refl, sym, ◌∙◌}
use mathlib.Core.Bool.{Bool, true, false, ◌&&◌, true≢false}
use Rattle.std.proofs.Common.{rules}
use Rattle.std.proofs.iter.runs.Sources.{ranges}
use Rattle.lists.specs.Count.{any_below}
use Rattle.lists.proofs.AnyBelow.{found_any_below, none_any_below}
use Rattle.matching.specs.Assignment.{marked}
use Rattle.matching.specs.Input.{allowed_at}
use Rattle.unions.proofs.deficient.some_allows.Goals as goal

-- An answer that is no exactly where no number below n passes.
any_says : (answer : Bool) (n : ℕ) (f : ℕ → Bool) → (answer ≡ false → (k : ℕ) → k < n → f k ≡ false) → (((k : ℕ) → k < n → f k ≡ false) → answer ≡ false)
    → answer ≡ any_below n f
any_says false n f none_passes all_fail = sym (none_any_below f n (none_passes refl))
any_says true n f none_passes all_fail = by_answer (any_below n f) refl
  where
    fails : any_below n f ≡ false → (k : ℕ) → k < n → f k ≡ false
    fails q k h = by_test (f k) refl
      where
        by_test : (b : Bool) → f k ≡ b → b ≡ false
        by_test true passes = absurd (true≢false (sym (found_any_below f n h passes) ∙ q))
        by_test false passes = refl

    by_answer : (b : Bool) → any_below n f ≡ b → true ≡ b
    by_answer true q = refl
    by_answer false q = absurd (true≢false (all_fail (fails q)))

pub returns : goal.returns
unfolding allowed_at
returns c =
    let test : ℕ → Bool = λ i. marked c.args.marks.now i && allowed_at c.args.rows.now c.args.k i c.args.j in
    let none_passes : c.any.result ≡ false → (i : ℕ) → i < c.args.p → test i ≡ false = λ q i h. search (rules, ranges) in
    let all_fail : ((i : ℕ) → i < c.args.p → test i ≡ false) → c.any.result ≡ false = λ each. search (rules, ranges) in
    any_says c.any.result c.args.p test none_passes all_fail
