-- `unrooted_pieces::components::lowest_vertex` meets its contract. The loop's invariant: v is the lowest of the start and the ends of the edges
-- before the index. Assumes nothing.
use Prim.Native.Nat.{ℕ}
use mathlib.Core.Path.{◌≡◌, sym, ap, ◌∙◌}
use native.Mathlib.Omega.{arith}
use lib.ListN.{get_or}
use Rattle.graph.specs.Graph.{Graph, one_end, other_end}
use Rattle.graph.specs.Bytes.{graph_of}
use Rattle.unrooted_pieces.proofs.ComponentPieces.{lowest_none, lowest_more, lowest_all}
use Rattle.unrooted_pieces.proofs.components.lowest_vertex.Goals as goal

pub loop-edge-init : goal.loop-edge-init
loop-edge-init c = sym (lowest_none c.args.g.now c.args.start c.args.edges.now)

pub loop-edge-preserved : goal.loop-edge-preserved
loop-edge-preserved c =
    let g : Graph = c.args.g.now in
    let e : ℕ = get_or c.args.edges.now c.loop-edge.edge-index 0 in
    let one : c.one_end-one.result ≡ one_end g e = c.one_end-one.ensures.is ∙ ap (one_end g) c.wide-e.ensures.is in
    let other : c.other_end-other.result ≡ other_end g e = c.other_end-other.ensures.is ∙ ap (other_end g) c.wide-e.ensures.is in
    omega (arith, one, other, c.loop-edge.invariant, lowest_more g c.args.start c.args.edges.now c.loop-edge.edge-index c.loop-edge-test.true)

pub returns : goal.returns
returns c = lowest_all _ _ _ _ _ c.loop-edge-test.false c.loop-edge.invariant
