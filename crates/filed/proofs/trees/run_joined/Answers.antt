-- `filed::trees::run_joined` meets its contract. The loop's invariant: the edges of the entries before i are joined to the start.
-- Assumes nothing.
use Prim.Native.Nat.{ℕ}
use mathlib.Core.Path.{◌≡◌, ap, ◌∙◌}
use mathlib.Core.List.{List}
use native.Mathlib.Omega.{arith}
use Rattle.graph.specs.Graph.{Graph, one_end}
use Rattle.graph.proofs.Ranges.{one_end_below}
use Rattle.rules.specs.CoverBytes.{entry_edge}
use Rattle.filed.specs.Parents.{Found}
use Rattle.filed.proofs.JoinedByParents.{short_then}
use Rattle.filed.proofs.TreeTests.{run_apart, run_together, held_none, held_more, held_not}
use Rattle.filed.proofs.trees.run_joined.Goals as goal

-- What was found for u, where u is an end of edge e.
found_at : (g : Graph) {u x e r : ℕ} {before after : List ℕ} → u ≡ one_end g x → x ≡ e → Found u before after r → Found (one_end g e) before after r
found_at g p q f = rw (p ∙ ap (one_end g) q) at f

pub stands_for-home-requires : goal.stands_for-home-requires
stands_for-home-requires c = (omega (arith, c.requires.0, c.requires.1.valid.vertices_most), c.requires.1.parented)

pub loop-i-init : goal.loop-i-init
loop-i-init c = (omega arith, held_none c.args.g.now c.args.c.now c.args.from (omega (arith, c.requires.0, c.requires.1.valid.vertices_most)) c.stands_for-home.ensures)

pub stands_for-requires : goal.stands_for-requires
stands_for-requires c = (
  omega (arith, c.one_end-u.ensures.is, one_end_below c.requires.1.valid c.entry_edge.result, c.requires.1.valid.vertices_most),
  c.loop-i.invariant.1.short.parents,
)

pub returns-then-stands_for-home : goal.returns-then-stands_for-home
returns-then-stands_for-home c =
    run_apart c.args.g.now c.args.c.now c.args.from c.args.to c.stands_for-home.ensures c.loop-i.i c.loop-i.invariant.0 (omega arith)
    (held_not c.args.g.now c.args.c.now c.args.from c.loop-i.invariant.1 (found_at c.args.g.now c.one_end-u.ensures.is c.entry_edge.ensures.is c.stands_for.ensures)
    (omega (arith, one_end_below c.requires.1.valid (entry_edge c.args.c.now c.loop-i.i), c.requires.1.valid.vertices_most)) c.if-stands_for-home.true)
    (short_then c.loop-i.invariant.1.short c.stands_for.ensures.short)

pub loop-i-preserved : goal.loop-i-preserved
loop-i-preserved c =
    (omega arith, held_more c.args.g.now c.args.c.now c.args.from c.loop-i.invariant.1 (found_at c.args.g.now c.one_end-u.ensures.is c.entry_edge.ensures.is c.stands_for.ensures) c.if-stands_for-home.false)

pub returns : goal.returns
returns c =
    run_together c.args.g.now c.args.c.now c.args.from c.args.to c.stands_for-home.ensures
    (λ label w k h m. c.loop-i.invariant.1.held label w k h (omega arith)) c.loop-i.invariant.1.short
