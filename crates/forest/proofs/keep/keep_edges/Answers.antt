-- `forest::keep::keep_edges` meets its contract. The loop's invariant: the edges before e are taken. Assumes nothing.
use Prim.Native.Nat.{◌<◌}
use native.Mathlib.Omega.{arith}
use Rattle.graph.specs.Bytes.{graph_of}
use Rattle.forest.proofs.KeptOneByOne.{taking_none, taking_passed, taking_more, taking_few, taking_all}
use Rattle.forest.proofs.keep.keep_edges.Goals as goal
use Rattle.forest.proofs.keep.keep_edges.Goals.{then-join_ends, else-join_ends}

pub loop-e-init : goal.loop-e-init
loop-e-init c = taking_none _ _

pub bounds-kept-r : goal.bounds-kept-r
bounds-kept-r c =
    let few : c.loop-e.r < c.args.g.now.vertices = taking_few c.loop-e.invariant c.requires.labelable.valid in
    omega (arith, few)

pub loop-e-preserved : goal.loop-e-preserved
loop-e-preserved c =
    let few : c.loop-e.r < c.args.g.now.vertices = taking_few c.loop-e.invariant c.requires.labelable.valid in
    elim c.if-join_ends.branch [
      | then-join_ends w ↦
          rw (w.kept-is, w.r-is)
          (taking_more c.loop-e.invariant (omega arith) c.join_ends.auto.label
          (rw (c.wide.ensures.is, w.if-join_ends.true) at c.join_ends.ensures) (omega (arith, few)))
      | else-join_ends w ↦
          rw (w.kept-is, w.r-is)
          (taking_passed c.loop-e.invariant (omega arith) c.join_ends.auto.label
          (rw (c.wide.ensures.is, w.if-join_ends.false) at c.join_ends.ensures))
    ]

pub returns : goal.returns
returns c = taking_all c.loop-e.invariant c.requires.labelable.valid (omega arith) (omega arith)
