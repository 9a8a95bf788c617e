-- `forest::marks::all_marked` meets its contract. The loop's invariant: all that was passed, eight at a time, is marked. Assumes nothing.
use mathlib.Core.Path.{◌≡◌, sym, ◌∙◌}
use mathlib.Core.Bool.{false≢true}
use native.Mathlib.Omega.{arith}
use borrow.Author.Rules.{rules}
use borrow.Author.Tests.{tests}
use Rattle.std.proofs.lemmas.Iterator.{cases_from_all, YieldsList-from_slice}
use Rattle.forest.proofs.EightMarks.{next_marked, eight_passed, rest_says}
use Rattle.forest.proofs.marks.all_marked.Goals as goal

pub returns-then-not-eight_marked : goal.returns-then-not-eight_marked
returns-then-not-eight_marked c = (
  λ t. absurd (false≢true t),
  λ all.
      sym c.if-not-eight_marked.true
      ∙ c.eight_marked.ensures.1
      (next_marked c.if-marks-n.false c.loop-eight.invariant.passed _ _ c.in-Some.ensures.steps.1.0 (c.in-Some.ensures.steps.1.1 ∙ c.loop-eight.invariant.size) all),
)

pub loop-eight-preserved : goal.loop-eight-preserved
loop-eight-preserved c =
    record {
      size = c.in-Some.ensures.steps.0 ∙ c.loop-eight.invariant.size;
      passed =
          eight_passed c.if-marks-n.false c.loop-eight.invariant.passed _ _ c.in-Some.ensures.steps.1.0
          (c.in-Some.ensures.steps.1.1 ∙ c.loop-eight.invariant.size) (c.eight_marked.ensures.0 c.if-not-eight_marked.false);
    }

pub returns : goal.returns
returns c =
    rest_says c.if-marks-n.false c.loop-eight.invariant.passed c.all.result
    (omega (arith, c.in-None.ensures.steps.1.0, c.loop-eight.invariant.size))
    (c.remainder-rest.ensures ∙ c.chunks_exact-eights.ensures.remainder)
    (cases_from_all _ _ _ (λ x. x ≡ 1) (λ x. x ≡ 1 → ⊥) c.all.ensures.ran (YieldsList-from_slice c.remainder-rest.result.now cc)
    (λ x q k. search (rules, tests)) (λ x q k. search (rules, tests)))
