-- `asking::ask_rooted::ask_rooted_small` meets its contract: there is room for a small graph and few crews. Assumes nothing.
use native.Mathlib.Omega.{arith}
use Rattle.asking.proofs.Rooms.{room_for_fewer}
use Rattle.asking.proofs.ask_rooted.ask_rooted_small.Goals as goal

pub ask_rooted_in-requires : goal.ask_rooted_in-requires
ask_rooted_in-requires c =
    record {
      question = c.requires.question;
      arrays =
          room_for_fewer c.requires.small.vertices_few c.requires.small.edges_few c.requires.small.crews_few
          (record {
            order_room = omega arith;
            kept_room = omega arith;
            bounds_room = omega arith;
            all_room = omega arith;
            arcs_room = omega arith;
            spare_room = omega arith;
            distances_room = omega arith;
            lasts_room = omega arith;
          });
    }
