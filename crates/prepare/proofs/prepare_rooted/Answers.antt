-- `prepare::prepare_rooted` meets its contract: the distances, the forest, and the arcs over the forest. Assumes nothing.
use Prim.Native.Nat.{ℕ, ◌*◌, ◌≤◌}
use mathlib.Core.Path.{◌≡◌, sym, ap}
use native.Mathlib.Omega.{arith}
use lib.ListN.{length, take}
use lib.Seq.{length-take-le}
use Rattle.lists.proofs.Lengths.{length_within}
use Rattle.lists.proofs.OnlyFirst.{only_first_on, only_first_of_more}
use Rattle.lists.proofs.Sorting.{rise_length}
use Rattle.graph.specs.Graph.{Graph, edge_count}
use Rattle.rules.specs.Order.{ordered}
use Rattle.rules.specs.Labels.{together}
use Rattle.forest_laws.proofs.Keeping.{kept_subset, kept_once}
use Rattle.forest_laws.proofs.Ordering.{of_ordered}
use Rattle.prepare.proofs.prepare_rooted.Goals as goal

pub keep_forest-ready-requires : goal.keep_forest-ready-requires
keep_forest-ready-requires c =
    record {
      for_order =
          record {
            valid = c.requires.given.valid;
            keys_room = omega (arith, c.requires.room.all_room);
            spare_room = omega (arith, c.requires.room.spare_room);
            room = omega (arith, c.requires.room.order_room);
          };
      kept_room = omega (arith, c.requires.room.kept_room);
    }

pub slice_bounds-put_arcs-end-2 : goal.slice_bounds-put_arcs-end-2
slice_bounds-put_arcs-end-2 c =
    let size : length (take c.keep_forest-ready.result.forest c.keep_forest-ready.new.kept) ≡ c.keep_forest-ready.result.forest = length-take-le _ _ c.keep_forest-ready.ensures.forest_room in
    sym size

pub put_arcs-requires : goal.put_arcs-requires
put_arcs-requires c =
    let g : Graph = c.args.g.now in
    let size : length (take c.keep_forest-ready.result.forest c.keep_forest-ready.new.kept) ≡ c.keep_forest-ready.result.forest = length-take-le _ _ c.keep_forest-ready.ensures.forest_room in
    record {
      valid = c.requires.given.valid;
      inside = λ e m. of_ordered g (kept_subset g (together c.args.roots.now) (ordered g) (rw c.keep_forest-ready.ensures.forest at m));
      once = rw c.keep_forest-ready.ensures.forest (kept_once g (together c.args.roots.now) (ordered g));
      few = omega (arith, size, c.keep_forest-ready.ensures.fewer, c.requires.given.valid.vertices_most);
      bounds_room = omega (arith, c.requires.room.bounds_room);
      arcs_room = omega (arith, size, c.keep_forest-ready.ensures.fewer, c.requires.room.arcs_room);
    }

pub returns : goal.returns
returns c =
    let g : Graph = c.args.g.now in
    let size : length (take c.keep_forest-ready.result.forest c.keep_forest-ready.new.kept) ≡ c.keep_forest-ready.result.forest = length-take-le _ _ c.keep_forest-ready.ensures.forest_room in
    let few_kept : c.keep_forest-ready.result.forest ≤ edge_count g = omega (
      arith,
      size,
      ap length c.keep_forest-ready.ensures.forest,
      ap length c.keep_forest-ready.ensures.in_order,
      length-take-le c.keep_forest-ready.result.edges c.keep_forest-ready.new.order c.keep_forest-ready.ensures.edges_room,
      c.keep_forest-ready.ensures.edges_are,
      length_within (kept_once g (together c.args.roots.now) (ordered g)) (λ e. kept_subset g (together c.args.roots.now) (ordered g)),
    ) in
    let twice : ℕ = 2 * edge_count g in
    record {
      edges_room = c.keep_forest-ready.ensures.edges_room;
      forest_room = c.keep_forest-ready.ensures.forest_room;
      prepared =
          record {
            decidable = record { given = c.requires.given; forest = c.keep_forest-ready.ensures.forest; distances_are = c.prepare_distances.ensures.tabled.distances_are };
            around = rw c.keep_forest-ready.ensures.forest at c.put_arcs.ensures.around;
            in_order = c.keep_forest-ready.ensures.in_order;
            last_edges = c.prepare_distances.ensures.tabled.last_edges;
          };
      order_rest = only_first_on c.prepare_distances.ensures.numbers_rest c.keep_forest-ready.ensures.order_rest;
      kept_rest = c.keep_forest-ready.ensures.kept_rest;
      bounds_rest = only_first_on c.prepare_distances.ensures.bounds_rest c.put_arcs.ensures.bounds_only;
      all_rest = only_first_on c.prepare_distances.ensures.all_rest (only_first_of_more c.keep_forest-ready.ensures.keys_rest twice (omega arith));
      arcs_rest =
          only_first_on (only_first_of_more c.keep_forest-ready.ensures.spare_rest twice (omega arith))
          (only_first_of_more c.put_arcs.ensures.arcs_only twice (omega (arith, rise_length (take c.keep_forest-ready.result.forest c.keep_forest-ready.new.kept), size, few_kept)));
      distances_rest = c.prepare_distances.ensures.distances_rest;
      lasts_rest = c.prepare_distances.ensures.lasts_rest;
    }
