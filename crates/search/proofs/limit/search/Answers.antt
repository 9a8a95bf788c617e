-- `search::limit::search` meets its contract. The loop's invariant: from low and high, with the trials left, the search ends where it would have
-- ended. The measure is how many trials are left. Assumes nothing.
use mathlib.Core.Path.{sym, ◌∙◌}
use native.Mathlib.Omega.{arith}
use Rattle.search.proofs.SearchLoop.{search_begins, high_moves, low_moves, ends}
use Rattle.search.proofs.limit.search.Goals as goal
use Rattle.search.proofs.limit.search.Goals.{then-loop-left-test+else-high-low-gt1, else-loop-left-test}
use mathlib.Core.Logic.{◌⊎◌, inl, inr}
use Prim.Native.Nat.{◌≤◌, ◌-◌}
use mathlib.Core.Path.{◌≡◌}

pub loop-left-init : goal.loop-left-init
loop-left-init c = search_begins _ _ _ _

pub overflow_sub-high : goal.overflow_sub-high
overflow_sub-high c = omega (arith, c.loop-left.invariant.in_order)

pub overflow_add-middle : goal.overflow_add-middle
overflow_add-middle c = omega (arith, c.loop-left.invariant.in_order, c.loop-left.invariant.most, c.requires.sum_most)

pub accepts_at-requires : goal.accepts_at-requires
accepts_at-requires c = record { prepared = c.requires.prepared; stepped = c.requires.stepped; limit_most = omega (arith, c.loop-left.invariant.in_order, c.loop-left.invariant.most, c.requires.sum_most) }

pub loop-left-smaller-then-accepts_at : goal.loop-left-smaller-then-accepts_at
loop-left-smaller-then-accepts_at c = omega (arith, c.loop-left-test.true)

pub loop-left-preserved-then-accepts_at : goal.loop-left-preserved-then-accepts_at
loop-left-preserved-then-accepts_at c = high_moves c.loop-left.invariant c.loop-left-test.true (omega (arith, c.if-high-low-gt1.true)) (sym c.accepts_at.ensures ∙ c.if-accepts_at.true)

pub loop-left-smaller : goal.loop-left-smaller
loop-left-smaller c = omega (arith, c.loop-left-test.true)

pub loop-left-preserved : goal.loop-left-preserved
loop-left-preserved c = low_moves c.loop-left.invariant c.loop-left-test.true (omega (arith, c.if-high-low-gt1.true)) (sym c.accepts_at.ensures ∙ c.if-accepts_at.false)

pub overflow_sub-result : goal.overflow_sub-result
overflow_sub-result c = c.loop-left.invariant.left_most

pub returns : goal.returns
returns c =
    let l = c.loop-left in
    let near_or_spent : (l.high - l.low ≤ 1) ⊎ (l.left ≡ 0) =
    elim c.loop-left-test.branch [
      | then-loop-left-test+else-high-low-gt1 w ↦ inl (omega (arith, w.if-high-low-gt1.false))
      | else-loop-left-test w ↦ inr (omega (arith, w.loop-left-test.false))
    ] in
    ends l.invariant (λ near. near) (λ spent. spent) near_or_spent
