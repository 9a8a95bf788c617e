-- `unions::union::keep_marked` meets its contract. The loop's invariant: the marked edges before the index are taken, and at most as many as are
-- left are marked behind them. Assumes nothing.
use Prim.Native.Nat.{ℕ, ◌+◌, ◌-◌, ◌≤◌, ◌<◌}
use mathlib.Core.Path.{◌≡◌, sym, ap, ◌∙◌}
use mathlib.Core.Bool.{true}
use mathlib.Core.List.{List}
use native.Mathlib.Omega.{arith}
use lib.ListN.{length, get_or}
use Rattle.graph.specs.Bytes.{graph_of}
use Rattle.matching.specs.Assignment.{marked}
use Rattle.unions.proofs.MarkedKept.{joined_as, keeping_none, keeping_met, keeping_all, keeping_few, keeping_passed, inside, keeping_joined, keeping_more}
use Rattle.unions.proofs.union.keep_marked.Goals as goal
use Rattle.unions.proofs.union.keep_marked.Goals.{then-join_ends, else-join_ends}

pub loop-edge-init : goal.loop-edge-init
loop-edge-init c =
    let none-met : c.args.most - c.args.most ≡ 0 = omega arith in
    record { keeping = rw none-met (keeping_none c.args.g.now (marked c.args.marks.now) c.args.list.now c.args.label.now c.args.out.now); within = omega arith }

pub returns-then-left-eq0 : goal.returns-then-left-eq0
returns-then-left-eq0 c = keeping_met c.loop-edge.invariant.keeping c.requires.keepable.labelable.valid (omega (arith, c.loop-edge.invariant.within, c.requires.few))

pub loop-edge-preserved-then-not-is_marked : goal.loop-edge-preserved-then-not-is_marked
loop-edge-preserved-then-not-is_marked c =
    let passed = sym (c.if-not-is_marked.ensures ∙ ap (marked c.args.marks.now) c.wide-e.ensures.is) in
    record { keeping = keeping_passed c.loop-edge.invariant.keeping c.loop-edge-test.true passed; within = c.loop-edge.invariant.within }

pub offset_bounds-out-r : goal.offset_bounds-out-r
offset_bounds-out-r c = omega (arith, keeping_few c.loop-edge.invariant.keeping c.requires.keepable.labelable.valid, c.requires.keepable.labelable.valid.vertices_most)

pub bounds-out-r : goal.bounds-out-r
bounds-out-r c = omega (arith, keeping_few c.loop-edge.invariant.keeping c.requires.keepable.labelable.valid, c.requires.keepable.room, c.loop-edge.invariant.keeping.taking.kept_same)

pub loop-edge-preserved : goal.loop-edge-preserved
loop-edge-preserved c =
    let list : List ℕ = c.args.list.now in
    let more : c.loop-edge.edge-index < length list = c.loop-edge-test.true in
    let is_marked : marked c.args.marks.now (get_or list c.loop-edge.edge-index 0) ≡ true = sym (c.if-not-is_marked.ensures ∙ ap (marked c.args.marks.now) c.wide-e.ensures.is) in
    let one_left : 1 ≤ c.loop-edge.left = omega (arith, inside c.loop-edge.invariant.keeping more is_marked, c.loop-edge.invariant.within, c.requires.few) in
    let one_met : c.args.most - (c.loop-edge.left - 1) ≡ c.args.most - c.loop-edge.left + 1 = omega (arith, one_left, c.loop-edge.invariant.within) in
    let within : c.loop-edge.left - 1 ≤ c.args.most = omega (arith, c.loop-edge.invariant.within) in
    let fits : c.loop-edge.r < length c.loop-edge.out = omega (arith, keeping_few c.loop-edge.invariant.keeping c.requires.keepable.labelable.valid, c.requires.keepable.room, c.loop-edge.invariant.keeping.taking.kept_same) in
    elim c.if-join_ends.branch [
      | then-join_ends w ↦
          rw (w.out-is, w.r-is)
          (record {
            keeping =
                rw one_met
                (keeping_more c.loop-edge.invariant.keeping more is_marked c.join_ends.auto.label (joined_as c.wide-e.ensures.is w.if-join_ends.true c.join_ends.ensures) fits);
            within = within;
          })
      | else-join_ends w ↦
          rw (w.out-is, w.r-is)
          (record {
            keeping =
                rw one_met
                (keeping_joined c.loop-edge.invariant.keeping more is_marked c.join_ends.auto.label (joined_as c.wide-e.ensures.is w.if-join_ends.false c.join_ends.ensures));
            within = within;
          })
    ]

pub returns : goal.returns
returns c = keeping_all c.loop-edge.invariant.keeping c.requires.keepable.labelable.valid c.loop-edge-test.false
