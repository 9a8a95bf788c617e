-- `waiting::relax::relax_arc` meets its contract: the ways are the cases of `ArcRelaxed`. What is stored is below what stood there,
-- so it fits. Assumes nothing.
use native.Mathlib.Omega.{arith}
use borrow.Author.Tests.{leb-true, leb-false}
use Rattle.edges.specs.Around.{arc_weight}
use Rattle.waiting.proofs.OneArc.{arc_kept, arc_changed}
use borrow.Author.Rules.{rules}
use Rattle.waiting.proofs.relax.relax_arc.Goals as goal

pub overflow_add-over : goal.overflow_add-over
unfolding arc_weight
overflow_add-over c = search rules

pub returns-then-wide_distance-over : goal.returns-then-wide_distance-over
returns-then-wide_distance-over c = arc_kept c.arc_head-v.ensures c.arc_weight.ensures _ _ (omega (arith, leb-true))

pub returns : goal.returns
returns c = arc_changed c.arc_head-v.ensures c.arc_weight.ensures _ _ (omega (arith, leb-false)) c.arc_edge.ensures c.last_of.ensures
