-- `closed_walk::turn::take_turn` meets its contract: the next edge is found among the arcs of the last stop, and the arrays are as one turn makes them.
-- Assumes nothing.
use Prim.Native.Nat.{ℕ, ◌-◌, ◌≤◌, ◌<◌}
use mathlib.Core.Path.{◌≡◌}
use mathlib.Core.List.{List}
use native.Mathlib.Omega.{arith}
use lib.ListN.{length, get_or}
use Rattle.lists.specs.Segments.{segment}
use Rattle.edges.specs.Around.{arc_head}
use Rattle.closed_walk.specs.Turn.{NextPlace}
use Rattle.closed_walk.proofs.NextFound.{last_vertex, arcs_held, places_asked}
use Rattle.closed_walk.proofs.NextTurn.{FoundAt, turn_on, turn_home}
use Rattle.closed_walk.proofs.turn.take_turn.Goals as goal

-- The next place of a stop was looked for from a place that is the stop's.
found_at : {bounds arcs places marks around : List ℕ} {from at stop : ℕ} → around ≡ segment bounds arcs stop → from ≡ get_or places stop 0
    → NextPlace around marks from at → FoundAt bounds arcs places marks around at stop
found_at p q n = record { is = p; next = rw q at n }

pub arcs_at-around-requires : goal.arcs_at-around-requires
arcs_at-around-requires c = arcs_held c.requires.walking c.wide-stop.ensures.is

pub bounds-places-stop : goal.bounds-places-stop
bounds-places-stop c = omega (arith, last_vertex c.requires.walking c.wide-stop.ensures.is, c.requires.walking.around.valid.vertices_most, c.requires.walking.places_room)

pub next_place-at-requires : goal.next_place-at-requires
next_place-at-requires c = rw c.wide.ensures.is (places_asked c.requires.walking c.wide-stop.ensures.is c.arcs_at-around.ensures.is)

pub overflow_cast-places : goal.overflow_cast-places
overflow_cast-places c = omega (arith, c.next_place-at.ensures.within, c.arcs_at-around.ensures.few)

pub bounds-places-stop-2 : goal.bounds-places-stop-2
bounds-places-stop-2 c = omega (arith, last_vertex c.requires.walking c.wide-stop.ensures.is, c.requires.walking.around.valid.vertices_most, c.requires.walking.places_room)

pub bounds-marks-wide : goal.bounds-marks-wide
bounds-marks-wide c = rw (c.wide-then-at-around.ensures.is, c.arc_edge.ensures) ((places_asked c.requires.walking c.wide-stop.ensures.is c.arcs_at-around.ensures.is).each c.next_place-at.result (omega arith))

pub overflow_cast-way : goal.overflow_cast-way
overflow_cast-way c = unfold arc_head in omega (arith, c.arc_head.ensures)

pub returns-then-at-around : goal.returns-then-at-around
returns-then-at-around c =
    record {
      further = λ g t i w.
          rw (c.wide-then-at-around.ensures.is, c.arc_edge.ensures, c.arc_head.ensures)
          (turn_on g t i w c.wide-stop.ensures.is (found_at c.arcs_at-around.ensures.is c.wide.ensures.is c.next_place-at.ensures) c.requires.room (omega arith));
    }

pub returns-then-depth-eq0 : goal.returns-then-depth-eq0
returns-then-depth-eq0 c =
    let top : c.args.depth - 1 ≡ 0 = omega arith in
    record { further = λ g t i w. rw top at (turn_home g t i w c.wide-stop.ensures.is (found_at c.arcs_at-around.ensures.is c.wide.ensures.is c.next_place-at.ensures) (omega (arith, c.next_place-at.ensures.within))) }

pub returns : goal.returns
returns c = record { further = λ g t i w. turn_home g t i w c.wide-stop.ensures.is (found_at c.arcs_at-around.ensures.is c.wide.ensures.is c.next_place-at.ensures) (omega (arith, c.next_place-at.ensures.within)) }
