-- `prepare::prepare_distances` meets its contract: the table is filled over the arcs of all edges. Assumes nothing.
use mathlib.Core.Path.{◌≡◌, sym, ap, ◌∙◌}
use native.Mathlib.Omega.{arith}
use lib.ListN.{length, take}
use Rattle.lists.specs.Count.{below}
use Rattle.lists.specs.Put.{OnlyFirst}
use Rattle.lists.proofs.Below.{of_below}
use Rattle.lists.proofs.Put.{put_taken, put_only_first}
use Rattle.lists.proofs.Runs.{length_below}
use Rattle.graph.specs.Graph.{Graph, edge_count}
use Rattle.prepare.proofs.prepare_distances.Goals as goal

pub slice_bounds-put_around-end-2 : goal.slice_bounds-put_around-end-2
slice_bounds-put_around-end-2 c =
    let g : Graph = c.args.g.now in
    let all_are : take c.edge_count-m.result c.number_up.new.out ≡ below (edge_count g) = put_taken c.number_up.ensures ∙ ap below c.edge_count-m.ensures.is in
    let size : length (take c.edge_count-m.result c.number_up.new.out) ≡ edge_count g = ap length all_are ∙ length_below (edge_count g) in
    c.edge_count-m.ensures.is ∙ sym size

pub put_around-requires : goal.put_around-requires
put_around-requires c =
    let g : Graph = c.args.g.now in
    let all_are : take c.edge_count-m.result c.number_up.new.out ≡ below (edge_count g) = put_taken c.number_up.ensures ∙ ap below c.edge_count-m.ensures.is in
    let size : length (take c.edge_count-m.result c.number_up.new.out) ≡ edge_count g = ap length all_are ∙ length_below (edge_count g) in
    record {
      valid = c.requires.given.valid;
      inside = λ e m. of_below (edge_count g) (rw all_are at m);
      few = omega (arith, size, c.requires.given.valid.edges_most);
      bounds_room = omega (arith, c.requires.bounds_room);
      arcs_room = omega (arith, size, c.requires.all_room);
    }

pub fill_table-requires : goal.fill_table-requires
fill_table-requires c =
    record {
      sound = rw c.vertex_count-n.ensures.is c.put_around.ensures.around.sound;
      roots_inside = λ j h. rw c.vertex_count-n.ensures.is (c.requires.given.inside j h);
      distances_room = rw c.vertex_count-n.ensures.is c.requires.distances_room;
      lasts_room = rw c.vertex_count-n.ensures.is c.requires.lasts_room;
    }

pub returns : goal.returns
returns c =
    let g : Graph = c.args.g.now in
    let all_are : take c.edge_count-m.result c.number_up.new.out ≡ below (edge_count g) = put_taken c.number_up.ensures ∙ ap below c.edge_count-m.ensures.is in
    let numbers_only : OnlyFirst (edge_count g) c.args.numbers.now c.number_up.new.out = rw (← c.edge_count-m.ensures.is) (put_only_first c.number_up.ensures) in
    let size : length (take c.edge_count-m.result c.number_up.new.out) ≡ edge_count g = ap length all_are ∙ length_below (edge_count g) in
    record {
      tabled = c.fill_table.ensures.of_graph g (rw all_are at c.put_around.ensures.around) (sym c.vertex_count-n.ensures.is);
      numbers_rest = numbers_only;
      bounds_rest = c.put_around.ensures.bounds_only;
      all_rest = rw size at c.put_around.ensures.arcs_only;
      distances_rest = rw c.vertex_count-n.ensures.is at c.fill_table.ensures.distances_rest;
      lasts_rest = rw c.vertex_count-n.ensures.is at c.fill_table.ensures.lasts_rest;
    }
