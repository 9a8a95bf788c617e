-- `rooted_cover::cover_trees::put_tree` meets its contract. Assumes nothing.
use Prim.Native.Nat.{ℕ, ◌+◌, ◌*◌, ◌^◌, ◌≤◌, ◌<◌}
use mathlib.Core.Path.{◌≡◌, refl}
use native.Mathlib.Omega.{arith}
use lib.ListN.{length, get_or, length-take, length-drop}
use Rattle.graph.specs.Bytes.{graph_of}
use Rattle.rooted_cover.proofs.TreesPut.{row_fits, tree_asked, tree_put}
use borrow.Author.Rules.{rules}
use Rattle.rooted_cover.proofs.cover_trees.put_tree.Goals as goal

pub overflow_mul-from : goal.overflow_mul-from
overflow_mul-from c = omega (arith, row_fits c.args.j (length c.args.roots.now) c.vertex_count-n.result _ (length c.args.table.distances.now) c.vertex_count-n.ensures.is c.requires.root c.requires.given.distances_room)

pub overflow_add-to : goal.overflow_add-to
overflow_add-to c = omega (arith, row_fits c.args.j (length c.args.roots.now) c.vertex_count-n.result _ (length c.args.table.distances.now) c.vertex_count-n.ensures.is c.requires.root c.requires.given.distances_room)

pub offset_bounds-edges-at : goal.offset_bounds-edges-at
offset_bounds-edges-at c = omega (arith, c.requires.fits)

pub rooted_tree-r-requires : goal.rooted_tree-r-requires
rooted_tree-r-requires c =
    tree_asked c.requires.given c.requires.root c.vertex_count-n.ensures.is c.wide-root.ensures.is c.number_at-left.ensures.is _
    (simp (length-take, length-drop) (omega (arith, c.requires.fits)))

pub overflow_add-result : goal.overflow_add-result
overflow_add-result c = omega (arith, c.rooted_tree-r.ensures.fewer, c.requires.fits)

pub returns : goal.returns
returns c =
    tree_put c.vertex_count-n.ensures.is c.wide-root.ensures.is c.number_at-left.ensures.is refl (omega (arith, c.requires.fits)) c.rooted_tree-r.ensures
