-- `prepare::keep_forest` meets its contract: the order is written, and the forest is kept of it. Assumes nothing.
use mathlib.Core.Path.{◌≡◌, sym, ap, ◌∙◌}
use native.Mathlib.Omega.{arith}
use lib.ListN.{length, take}
use Rattle.lists.specs.Put.{OnlyFirst}
use Rattle.lists.proofs.Put.{put_count, put_taken, put_fits, put_length, put_only_first}
use Rattle.graph.specs.Graph.{edge_count}
use Rattle.rules.specs.Order.{ordered}
use Rattle.prepare.proofs.keep_forest.Goals as goal

pub slice_bounds-keep_whole-end-2 : goal.slice_bounds-keep_whole-end-2
slice_bounds-keep_whole-end-2 c =
    let ordered_is : take c.order_edges-edges.result c.order_edges-edges.new.order ≡ ordered c.args.g.now = put_taken c.order_edges-edges.ensures.put in
    put_count c.order_edges-edges.ensures.put ∙ sym (ap length ordered_is)

pub keep_whole-forest-requires : goal.keep_whole-forest-requires
keep_whole-forest-requires c =
    let ordered_is : take c.order_edges-edges.result c.order_edges-edges.new.order ≡ ordered c.args.g.now = put_taken c.order_edges-edges.ensures.put in
    record {
      keepable = record { labelable = record { valid = c.requires.for_order.valid; room = omega (arith, c.requires.for_order.valid.vertices_most) }; room = omega (arith, c.requires.kept_room) };
      in_order = ordered_is;
    }

pub returns : goal.returns
returns c =
    let ordered_is : take c.order_edges-edges.result c.order_edges-edges.new.order ≡ ordered c.args.g.now = put_taken c.order_edges-edges.ensures.put in
    let order_only : OnlyFirst (edge_count c.args.g.now) c.args.order.now c.order_edges-edges.new.order = rw (← c.order_edges-edges.ensures.count) (put_only_first c.order_edges-edges.ensures.put) in
    record {
      edges_are = c.order_edges-edges.ensures.count;
      edges_room = omega (arith, put_fits c.order_edges-edges.ensures.put, put_length c.order_edges-edges.ensures.put.put);
      in_order = ordered_is;
      forest_room = omega (arith, put_fits c.keep_whole-forest.ensures.edges_are, put_length c.keep_whole-forest.ensures.edges_are.put);
      forest = put_taken c.keep_whole-forest.ensures.edges_are;
      fewer = c.keep_whole-forest.ensures.fewer;
      keys_rest = c.order_edges-edges.ensures.keys_rest;
      spare_rest = c.order_edges-edges.ensures.spare_rest;
      order_rest = order_only;
      kept_rest = put_only_first c.keep_whole-forest.ensures.edges_are;
    }
