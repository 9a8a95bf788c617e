-- `rooted_cover::cover_trees::lay_trees` meets its contract. The loop's invariant: the trees of the roots before j are laid, of each no more
-- edges than there are vertices. Assumes nothing.
use Prim.Native.Nat.{ℕ, ◌+◌, ◌*◌, ◌≤◌, ◌<◌}
use mathlib.Core.Path.{◌≡◌, ◌∙◌}
use native.Mathlib.Nat.{mul-le-mul}
use native.Mathlib.Omega.{arith}
use lib.ListN.{length, length-set}
use Rattle.lists.proofs.Put.{put_length}
use Rattle.lists.proofs.OnlyFirst.{only_first_none, only_first_store, only_first_on, only_first_put}
use Rattle.graph.specs.Bytes.{graph_of}
use Rattle.distance_table.proofs.RowPlaces.{row_room, row_behind}
use Rattle.rooted_cover.proofs.CoverLaid.{trees_more}
use Rattle.rooted_cover.proofs.cover_trees.lay_trees.Goals as goal

-- Behind the edges of the trees of j roots, of each no more than n, there is room for those of one more.
tree_fits : (j k n at size : ℕ) → j < k → at ≤ j * n → k * n ≤ size → at + n ≤ size
tree_fits j k n at size h few many = omega (arith, few, row_room j k n size h many)

pub put_tree-at-requires : goal.put_tree-at-requires
put_tree-at-requires c =
    let n : ℕ = c.args.g.now.vertices in
    record { given = c.requires.given; root = c.loop-j-test.true; fits = tree_fits c.loop-j.j _ n c.loop-j.at _ c.loop-j-test.true c.loop-j.invariant.few (omega (arith, c.requires.edges_fit, c.loop-j.invariant.edges-size)) }

pub overflow_cast-bounds : goal.overflow_cast-bounds
overflow_cast-bounds c =
    let n : ℕ = c.args.g.now.vertices in
    let small : c.loop-j.at + n ≤ 8192 = tree_fits c.loop-j.j _ n c.loop-j.at 8192 c.loop-j-test.true c.loop-j.invariant.few (omega (arith, mul-le-mul c.requires.few c.requires.given.valid.vertices_most)) in
    omega (arith, c.put_tree-at.ensures.fewer, small)

pub loop-j-preserved : goal.loop-j-preserved
loop-j-preserved c =
    let n : ℕ = c.args.g.now.vertices in
    let room : c.loop-j.j + 1 < length c.loop-j.bounds = omega (arith, c.loop-j-test.true, c.loop-j.invariant.bounds-size, c.requires.few, c.requires.bounds_fit, length-set c.args.bounds.now 0 0) in
    record {
      few = omega (arith, c.loop-j.invariant.few, c.put_tree-at.ensures.fewer, row_behind c.loop-j.j n);
      laid = trees_more c.loop-j.invariant.laid room c.put_tree-at.ensures;
      bounds-size = length-set c.loop-j.bounds (c.loop-j.j + 1) _ ∙ c.loop-j.invariant.bounds-size;
      edges-size = put_length c.put_tree-at.ensures.put.put ∙ c.loop-j.invariant.edges-size;
      bounds_rest = only_first_store c.loop-j.invariant.bounds_rest (c.loop-j.j + 1) _ (omega (arith, c.loop-j-test.true));
      edges_rest =
          only_first_on c.loop-j.invariant.edges_rest
          (only_first_put c.put_tree-at.ensures.put.put (length c.args.roots.now * n)
          (omega (arith, c.put_tree-at.ensures.put.behind, c.put_tree-at.ensures.fewer, tree_fits c.loop-j.j _ n c.loop-j.at (length c.args.roots.now * n) c.loop-j-test.true c.loop-j.invariant.few (omega arith))));
    }

pub returns : goal.returns
returns c =
    let all : c.loop-j.j ≡ length c.args.roots.now = omega (arith, c.loop-j-test.false) in
    let laid = rw all at c.loop-j.invariant.laid in
    record {
      laid = rw laid.bounded.last laid;
      bounds_rest = only_first_on (only_first_store (only_first_none _ c.args.bounds.now) 0 0 (omega arith)) c.loop-j.invariant.bounds_rest;
      edges_rest = c.loop-j.invariant.edges_rest;
    }
