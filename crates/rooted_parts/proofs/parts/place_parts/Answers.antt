-- `rooted_parts::parts::place_parts` meets its contract: the pieces are placed, and the parts assigned. Assumes nothing.
use Rattle.rooted_parts.proofs.PartsAssembled.{asked_held, rows_enough, out_enough}
use Rattle.rooted_parts.proofs.parts.place_parts.Goals as goal

pub assign_parts-assigned-requires : goal.assign_parts-assigned-requires
assign_parts-assigned-requires c =
    let held = asked_held c.requires c.place_pieces-parts.ensures.placed in
    record { held = held; rows_room = rows_enough held c.requires.rows_room; assignment_room = out_enough held c.requires.assignment_room }

pub returns : goal.returns
returns c =
    record {
      placed = record { pieces = c.place_pieces-parts.ensures.placed; rows = c.assign_parts-assigned.ensures.placed };
      pieces_rest = c.place_pieces-parts.ensures.rest;
      rows_rest = c.assign_parts-assigned.ensures.rows_rest;
      assignment_rest = c.assign_parts-assigned.ensures.assignment_rest;
    }
