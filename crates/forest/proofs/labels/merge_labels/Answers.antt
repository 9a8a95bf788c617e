-- `forest::labels::merge_labels` meets its contract. The loop's invariant: before x the labels are merged, and from x on they are as they
-- were. Assumes nothing.
use mathlib.Core.Path.{◌≡◌, ◌∙◌}
use native.Mathlib.Omega.{arith}
use lib.ListN.{length, take}
use lib.Seq.{length-take-le}
use Rattle.forest.proofs.Labelling.{merging_none, merging_more, merging_all}
use Rattle.forest.proofs.labels.merge_labels.Goals as goal

pub loop-x-init : goal.loop-x-init
loop-x-init c = merging_none _

pub loop-x-preserved : goal.loop-x-preserved
loop-x-preserved c =
    let size : length (take c.args.n c.args.label.now) ≡ c.args.n = length-take-le c.args.n c.args.label.now (omega arith) in
    merging_more c.loop-x.invariant (omega arith) (omega arith) (omega arith) (omega arith) c.relabelled.ensures

pub returns : goal.returns
returns c =
    let size : length (take c.args.n c.args.label.now) ≡ c.args.n = length-take-le c.args.n c.args.label.now (omega arith) in
    merging_all c.loop-x.invariant (omega arith) (c.loop-x.auto.x-items ∙ size) (omega arith)
