-- `unrooted::unrooted::split_components` meets its contract: the roots are the components' lowest vertices, the arcs are the forest's.
-- Assumes nothing.
use mathlib.Core.Path.{sym, ap, ◌∙◌}
use native.Mathlib.Omega.{arith}
use lib.ListN.{length}
use Rattle.lists.proofs.Put.{put_count, put_taken}
use Rattle.rules.specs.Labels.{apart}
use Rattle.forest_laws.proofs.Forest.{forest_once}
use Rattle.unrooted.proofs.ComponentsSplit.{forest_edges_few, forest_edges_inside, splittable, components_split}
use Rattle.unrooted.proofs.unrooted.split_components.Goals as goal

pub put_arcs-requires : goal.put_arcs-requires
put_arcs-requires c =
    record {
      valid = c.requires.forest_given.valid;
      inside = forest_edges_inside c.requires.forest_given;
      once = rw c.requires.forest_given.are (forest_once _ apart _);
      few = omega (arith, forest_edges_few c.requires.forest_given);
      bounds_room = omega arith;
      arcs_room = omega (arith, forest_edges_few c.requires.forest_given);
    }

pub slice_bounds-split_forest-end-3 : goal.slice_bounds-split_forest-end-3
slice_bounds-split_forest-end-3 c = put_count c.component_roots-k.ensures.are ∙ sym (ap length (put_taken c.component_roots-k.ensures.are))

pub split_forest-pieces-requires : goal.split_forest-pieces-requires
split_forest-pieces-requires c = splittable c.requires c.component_roots-k.ensures c.put_arcs.ensures c.vertex_count-n.ensures.is

pub returns : goal.returns
returns c =
    components_split c.requires c.component_roots-k.ensures c.put_arcs.ensures c.vertex_count-n.ensures.is
    c.split_forest-pieces.ensures
