-- `cover::heaviest::run_weight` meets its contract. The loop's invariant: the sum is the weight of the entries before i, less than 2^33 for each.
-- Assumes nothing.
use mathlib.Core.Path.{ap}
use native.Mathlib.Omega.{arith}
use Rattle.graph.specs.Graph.{Graph, weight_of}
use Rattle.graph.specs.Bytes.{graph_of}
use Rattle.cover.proofs.Weights.{run_weight_none, run_weight_next}
use Rattle.cover.proofs.heaviest.run_weight.Goals as goal

pub loop-i-init : goal.loop-i-init
loop-i-init c =
    let g : Graph = c.args.g.now in
    (omega arith, run_weight_none g c.args.c.now c.args.from)

pub loop-i-preserved : goal.loop-i-preserved
loop-i-preserved c =
    let g : Graph = c.args.g.now in (
      omega arith,
      omega (
        arith,
        run_weight_next g c.args.c.now c.args.from c.loop-i.i (omega arith),
        c.weight-sum.ensures.is,
        ap (weight_of g) c.entry_edge.ensures.is,
        c.loop-i.invariant.1,
      ),
    )
