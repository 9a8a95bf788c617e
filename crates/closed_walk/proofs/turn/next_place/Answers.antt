-- `closed_walk::turn::next_place` meets its contract. The loop's invariant: the edges of the arcs before i are marked.
-- Assumes nothing.
use mathlib.Core.Path.{◌≡◌, ◌∙◌}
use native.Mathlib.Omega.{arith}
use lib.ListN.{get_or}
use borrow.Author.Count.{below_more}
use Rattle.edges.specs.Around.{arc_edge}
use Rattle.closed_walk.proofs.turn.next_place.Goals as goal

pub bounds-marks-wide : goal.bounds-marks-wide
bounds-marks-wide c =
    let edge_read : c.wide.result ≡ arc_edge (get_or c.args.around.now c.loop-i.i 0) = c.wide.ensures.is ∙ c.arc_edge.ensures in
    rw edge_read (c.requires.each c.loop-i.i (omega arith))

pub returns-then-marks-wide-ne1 : goal.returns-then-marks-wide-ne1
returns-then-marks-wide-ne1 c =
    let edge_read : c.wide.result ≡ arc_edge (get_or c.args.around.now c.loop-i.i 0) = c.wide.ensures.is ∙ c.arc_edge.ensures in
    record {
      forward = omega arith;
      within = omega arith;
      passed = λ k h m. c.loop-i.invariant k m h;
      next = λ h q. c.if-marks-wide-ne1.true (rw edge_read q);
    }

pub loop-i-preserved : goal.loop-i-preserved
loop-i-preserved c =
    let edge_read : c.wide.result ≡ arc_edge (get_or c.args.around.now c.loop-i.i 0) = c.wide.ensures.is ∙ c.arc_edge.ensures in
    below_more _ c.loop-i.i c.loop-i.invariant (λ h. rw edge_read at c.if-marks-wide-ne1.false)

pub returns : goal.returns
returns c = record {
  forward = c.requires.within;
  within = omega arith;
  passed = λ k h m. c.loop-i.invariant k (omega arith) h;
  next = λ h. absurd (omega arith);
}
