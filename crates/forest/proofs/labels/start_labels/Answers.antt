-- `forest::labels::start_labels` meets its contract. The loop's invariant: the labels below v are those of the start. Assumes nothing.
use mathlib.Core.Path.{◌≡◌, ◌∙◌}
use native.Mathlib.Omega.{arith}
use lib.ListN.{length, take}
use lib.Seq.{length-take-le}
use Rattle.lists.proofs.SetUpTo.{stored_more}
use Rattle.rules.specs.Labels.{together}
use Rattle.forest.proofs.Labelling.{started}
use Rattle.forest.proofs.labels.start_labels.Goals as goal

pub loop-v-preserved : goal.loop-v-preserved
loop-v-preserved c = stored_more (together c.args.roots.now) c.loop-v.x-items c.loop-v.v c.first_label.result (omega arith) c.loop-v.invariant c.first_label.ensures

pub returns : goal.returns
returns c =
    let size : length (take c.args.n c.args.label.now) ≡ c.args.n = length-take-le c.args.n c.args.label.now (omega arith) in
    started _ _ (c.loop-v.auto.x-items ∙ size) (omega arith) (λ v l. c.loop-v.invariant v (omega arith))
