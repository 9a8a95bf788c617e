-- `graph::Graph::given_weight` meets its contract: no class takes from a weight or more than doubles it.
-- Assumes nothing.
use Prim.Native.Nat.{ℕ}
use mathlib.Core.List.{List}
use Rattle.graph.specs.Graph.{weight_of}
use Rattle.graph.specs.Bytes.{sheet_graph}
use Rattle.graph.specs.Surface.{class_at}
use Rattle.graph.proofs.Adjusted.{adjusted_no_less, adjusted_most}
use Rattle.graph.proofs.Surfaced.{weight_by_class}
use Rattle.graph.proofs.Graph.given_weight.Goals as goal

pub weight-requires : goal.weight-requires
weight-requires c = c.self.invariant.shown

pub returns : goal.returns
returns c =
    let b : List ℕ = c.self.inside.sheet.bytes.now in
    let w : ℕ = weight_of (sheet_graph b) c.args.e in
    let class : ℕ = class_at c.self.inside.classes.now c.args.e in
    rw (← c.self.view_is, weight_by_class b c.self.inside.classes.now c.args.e, c.weight.ensures.is)
    (record { low = adjusted_no_less w class; high = adjusted_most w class })
