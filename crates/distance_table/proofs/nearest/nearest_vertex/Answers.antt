-- `distance_table::nearest::nearest_vertex` meets its contract. The loop's invariant: v is a vertex of the part, and neither the start nor an end
-- of an edge before the index is nearer. Assumes nothing.
use Prim.Native.Nat.{ℕ, ◌<◌}
use mathlib.Core.Path.{◌≡◌, ap, ◌∙◌}
use native.Mathlib.Omega.{arith}
use lib.ListN.{length, get_or}
use Rattle.graph.specs.Graph.{Graph, one_end, other_end}
use Rattle.graph.specs.Bytes.{graph_of}
use Rattle.graph.specs.Valid.{Valid}
use Rattle.graph.proofs.Ranges.{one_end_below, other_end_below}
use Rattle.distance_table.proofs.NearestSoFar.{nearing_start, nearing_more, nearing_all, mid_inside, nearer_of}
use Rattle.distance_table.proofs.nearest.nearest_vertex.Goals as goal

pub loop-edge-init : goal.loop-edge-init
loop-edge-init c = nearing_start _ _ _ _ c.requires.start_inside

pub nearer-v-requires : goal.nearer-v-requires
nearer-v-requires c =
    let g : Graph = c.args.g.now in
    let within : (v : ℕ) → v < g.vertices → v < length c.args.dist.now = λ v h. omega (arith, c.requires.room) in
    let e : ℕ = get_or c.args.edges.now c.loop-edge.edge-index 0 in
    let one : c.one_end-one.result ≡ one_end g e = c.one_end-one.ensures.is ∙ ap (one_end g) c.wide-e.ensures.is in
    let valid : Valid g = c.requires.valid in
    record {
      one = within _ c.loop-edge.invariant.inside;
      other = rw one (within _ (one_end_below valid e));
    }

pub nearer-v-requires-in-loop-edge : goal.nearer-v-requires-in-loop-edge
nearer-v-requires-in-loop-edge c =
    let far : ℕ → ℕ = λ v. get_or c.args.dist.now v 0 in
    let g : Graph = c.args.g.now in
    let e : ℕ = get_or c.args.edges.now c.loop-edge.edge-index 0 in
    let nearerOne : ℕ = nearer_of far c.loop-edge.v (one_end g e) in
    let one : c.one_end-one.result ≡ one_end g e = c.one_end-one.ensures.is ∙ ap (one_end g) c.wide-e.ensures.is in
    let mid : c.nearer-v.result ≡ nearerOne = c.nearer-v.ensures ∙ ap (nearer_of far c.loop-edge.v) one in
    let within : (v : ℕ) → v < g.vertices → v < length c.args.dist.now = λ v h. omega (arith, c.requires.room) in
    let valid : Valid g = c.requires.valid in
    let other : c.other_end-other.result ≡ other_end g e = c.other_end-other.ensures.is ∙ ap (other_end g) c.wide-e.ensures.is in
    record {
      one = rw mid (within _ (mid_inside _ _ _ _ c.loop-edge.invariant valid c.loop-edge-test.true));
      other = rw other (within _ (other_end_below valid e));
    }

pub loop-edge-preserved : goal.loop-edge-preserved
loop-edge-preserved c =
    let far : ℕ → ℕ = λ v. get_or c.args.dist.now v 0 in
    let g : Graph = c.args.g.now in
    let e : ℕ = get_or c.args.edges.now c.loop-edge.edge-index 0 in
    let nearerOne : ℕ = nearer_of far c.loop-edge.v (one_end g e) in
    let one : c.one_end-one.result ≡ one_end g e = c.one_end-one.ensures.is ∙ ap (one_end g) c.wide-e.ensures.is in
    let mid : c.nearer-v.result ≡ nearerOne = c.nearer-v.ensures ∙ ap (nearer_of far c.loop-edge.v) one in
    let other : c.other_end-other.result ≡ other_end g e = c.other_end-other.ensures.is ∙ ap (other_end g) c.wide-e.ensures.is in
    let last : c.nearer-v-in-loop-edge.result ≡ nearer_of far nearerOne (other_end g e) = c.nearer-v-in-loop-edge.ensures
    ∙ ap (λ v. nearer_of far v c.other_end-other.result) mid
    ∙ ap (nearer_of far nearerOne) other in
    let valid : Valid g = c.requires.valid in
    rw last (nearing_more _ _ _ _ c.loop-edge.invariant valid c.loop-edge-test.true)

pub returns : goal.returns
returns c = nearing_all _ _ _ _ c.loop-edge.invariant c.loop-edge-test.false
