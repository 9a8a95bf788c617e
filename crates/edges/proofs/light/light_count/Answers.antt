-- `edges::light::light_count` meets its contract: the edges within the limit come first, and it says where they end. Assumes nothing.
use Prim.Native.Nat.{ℕ}
use mathlib.Core.List.{List}
use lib.Dec.{leb}
use Rattle.std.proofs.Common.{rules, tests}
use Rattle.std.proofs.lemmas.List.Sorted.{IsPartitionPoint-from_clause}
use Rattle.graph.specs.Graph.{Graph, weight_of}
use Rattle.graph.specs.Bytes.{graph_of}
use Rattle.edges.proofs.WithinLimit.{light_before_heavy, light_front}
use Rattle.edges.proofs.light.light_count.Goals as goal

pub returns : goal.returns
returns c =
    let g : Graph = c.args.g.now in
    let limit : ℕ = c.args.limit in
    let edges : List ℕ = c.args.edges.now in
    light_front g limit edges c.partition_point.ensures.bound
    (IsPartitionPoint-from_clause (λ e. leb (weight_of g e) limit) edges c.partition_point.result c.partition_point.ensures.partitioned (light_before_heavy g limit edges c.requires)
    (λ a r f k. search (rules, tests)))
