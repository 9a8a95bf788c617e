-- `cover::heaviest::heaviest_chosen` meets its contract. The loop's invariant: `most` is the heaviest of the trees so far.
-- Assumes nothing.
use Prim.Native.Nat.{max}
use mathlib.Core.Path.{ap, ap₂, ◌∙◌}
use native.Mathlib.Omega.{arith}
use Rattle.graph.specs.Graph.{Graph}
use Rattle.graph.specs.Bytes.{graph_of}
use Rattle.rules.specs.Walk.{total_weight}
use Rattle.cover.proofs.ChosenBytes.{chosen_readable}
use Rattle.cover.proofs.Weights.{chosen_none, chosen_next, chosen_all}
use Rattle.cover.proofs.heaviest.heaviest_chosen.Goals as goal

pub loop-c-init : goal.loop-c-init
loop-c-init c =
    let g : Graph = c.args.g.now in
    chosen_none g c.args.bounds.now c.args.edges.now c.args.chosen.now

pub edges_at-requires : goal.edges_at-requires
edges_at-requires c = chosen_readable c.args.chosen.now c.loop-c.c-index c.requires (omega arith) (omega arith)

pub loop-c-preserved : goal.loop-c-preserved
loop-c-preserved c =
    let g : Graph = c.args.g.now in
    c.max-most.ensures
    ∙ ap₂ max c.loop-c.invariant (c.edges_weight.ensures ∙ ap (total_weight g) c.edges_at.ensures.is)
    ∙ chosen_next g c.args.bounds.now c.args.edges.now c.args.chosen.now c.loop-c.c-index (omega arith)

pub returns : goal.returns
returns c =
    let g : Graph = c.args.g.now in
    chosen_all g c.args.bounds.now c.args.edges.now c.args.chosen.now c.loop-c.c-index (omega arith) c.loop-c.invariant
