-- `forest::marks::eight_marked` meets its contract: the four fields make the word. Assumes nothing.
use native.Mathlib.Omega.{arith}
use borrow.Author.Tests.{eqb-true, eq-eqb}
use Rattle.forest.proofs.EightMarks.{word_of_marks}
use Rattle.forest.proofs.marks.eight_marked.Goals as goal

pub returns : goal.returns
returns c =
    let word = word_of_marks c.args.marks.now (λ v. omega (arith, c.shared_slice_known-1.given v)) c.u16_within.ensures
    c.u16_within-2.ensures c.u16_within-3.ensures c.u16_within-4.ensures in
    (λ t. word.0 (eqb-true _ _ t), λ all. eq-eqb _ _ (word.1 all))
