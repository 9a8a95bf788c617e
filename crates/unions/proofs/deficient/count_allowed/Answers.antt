-- `unions::deficient::count_allowed` meets its contract. The loop's invariant: r counts the roots before j that are allowed to some marked
-- part. Assumes nothing.
use Prim.Native.Nat.{ℕ, ◌+◌}
use mathlib.Core.Path.{◌≡◌, refl, sym, ◌∙◌}
use mathlib.Core.Bool.{Bool, cond}
use native.Mathlib.Numerals.{add-one}
use native.Mathlib.Omega.{arith}
use Rattle.lists.specs.Count.{count}
use Rattle.lists.proofs.Fewer.{count_bounded}
use Rattle.unions.proofs.deficient.count_allowed.Invariants.{someAllows}
use Rattle.unions.proofs.deficient.count_allowed.Goals as goal
use Rattle.unions.proofs.deficient.count_allowed.Goals.{then-some_allows, else-some_allows}

-- One root more.
count_more : (f : ℕ → Bool) (j : ℕ) {t : Bool} → f j ≡ t → count (j + 1) f ≡ cond t 1 0 + count j f
unfolding count
count_more f j q = rw (add-one, q)

pub loop-j-init : goal.loop-j-init
unfolding count
loop-j-init c = refl

pub overflow_add-r : goal.overflow_add-r
overflow_add-r c =
    let test : ℕ → Bool = someAllows c.args.rows.now c.args.marks.now c.args.p c.args.k in
    omega (arith, c.loop-j.invariant, count_bounded c.loop-j.j test)

pub loop-j-preserved : goal.loop-j-preserved
loop-j-preserved c =
    let test : ℕ → Bool = someAllows c.args.rows.now c.args.marks.now c.args.p c.args.k in
    let more : (t : Bool) → c.some_allows.result ≡ t → count (c.loop-j.j + 1) test ≡ cond t 1 0 + count c.loop-j.j test = λ t q. count_more test c.loop-j.j (sym c.some_allows.ensures ∙ q) in
    elim c.if-some_allows.branch [
      | then-some_allows w ↦ omega (arith, more _ w.if-some_allows.true, c.loop-j.invariant, w.r-is)
      | else-some_allows w ↦ omega (arith, more _ w.if-some_allows.false, c.loop-j.invariant, w.r-is)
    ]
