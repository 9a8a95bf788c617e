-- `rooted_cover::tree::mark_reach` meets its contract. Assumes nothing.
use Prim.Native.Nat.{◌≤◌}
use mathlib.Core.Path.{refl}
use native.Mathlib.Omega.{arith}
use lib.ListN.{length, length-append}
use Rattle.distance.specs.Trail.{trail_of}
use Rattle.rooted_cover.specs.Tree.{most_in_piece}
use Rattle.unions.proofs.TreeMarks.{each_below, marked_both}
use borrow.Author.Rules.{rules}
use Rattle.rooted_cover.proofs.tree.mark_reach.Goals as goal

pub mark_edges-requires : goal.mark_edges-requires
mark_edges-requires c = each_below refl c.requires.marks

pub mark_back-requires : goal.mark_back-requires
mark_back-requires c = rw c.mark_edges.ensures.size (c.requires.back c.nearest_vertex-v.result c.nearest_vertex-v.ensures)

pub overflow_add-result : goal.overflow_add-result
overflow_add-result c =
    let few : length c.args.edges.now ≤ most_in_piece = search rules in
    omega (arith, c.mark_back.ensures.within, few)

pub returns : goal.returns
returns c =
    let few : length c.args.edges.now ≤ most_in_piece = search rules in
    record {
      vertex = c.nearest_vertex-v.result;
      nearest = c.nearest_vertex-v.ensures;
      marks =
          record {
            marks = marked_both c.args.edges.now _ c.mark_edges.ensures c.mark_back.ensures.marks;
            count = omega (arith, c.mark_back.ensures.count, length-append c.args.edges.now (trail_of c.args.row.lasts.now c.args.root c.nearest_vertex-v.result));
            within = omega (arith, c.mark_back.ensures.within, few);
          };
    }
