-- `rooted_parts::parts::place_pieces` meets its contract: the trees of the whole forest are split, and the parts stand between the leftovers.
-- Assumes nothing.
use mathlib.Core.Path.{◌≡◌, sym}
use native.Mathlib.Omega.{arith}
use lib.Seq.{length-take-le}
use Rattle.lists.proofs.Put.{only_first_length}
use Rattle.graph.specs.Bytes.{graph_of}
use Rattle.rooted_parts.proofs.PiecesByNumber.{can_split, places_fit, pieces_placed, pieces_rest}
use Rattle.rooted_parts.proofs.parts.place_pieces.Goals as goal

pub split_forest-requires : goal.split_forest-requires
split_forest-requires c =
    let n_is : c.vertex_count-n.result ≡ c.args.g.now.vertices = c.vertex_count-n.ensures.is in
    can_split c.requires n_is

pub slice_bounds-part_places-end-2 : goal.slice_bounds-part_places-end-2
slice_bounds-part_places-end-2 c = sym (length-take-le _ _ (omega (arith, c.requires.lefts_room, only_first_length c.split_forest.ensures.lefts_rest)))

pub part_places-requires : goal.part_places-requires
part_places-requires c =
    let n_is : c.vertex_count-n.result ≡ c.args.g.now.vertices = c.vertex_count-n.ensures.is in
    places_fit c.requires n_is c.split_forest.ensures

pub returns : goal.returns
returns c =
    let n_is : c.vertex_count-n.result ≡ c.args.g.now.vertices = c.vertex_count-n.ensures.is in
    record {
      placed = pieces_placed c.requires n_is c.split_forest.ensures c.part_places.ensures;
      rest = pieces_rest c.requires n_is c.split_forest.ensures c.part_places.ensures;
    }
