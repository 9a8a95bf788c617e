-- `rooted_answer::answer_parts` meets its contract: the arrays have room for the parts, which are placed and then answered.
-- Assumes nothing.
use Prim.Native.Nat.{◌*◌, ◌≤◌}
use native.Mathlib.Nat.{mul-le-mul_right}
use native.Mathlib.Omega.{arith}
use lib.ListN.{length}
use Rattle.lists.specs.Put.{OnlyFirst}
use Rattle.lists.proofs.Put.{only_first_length}
use Rattle.lists.proofs.OnlyFirst.{only_first_of_more}
use Rattle.graph.specs.Graph.{Graph}
use Rattle.rooted_answer.proofs.PartsReady.{parts_asked}
use Rattle.rooted_answer.proofs.PlacedAnswered.{joined_ready, placed_few, placed_given}
use Rattle.rooted_answer.proofs.answer_parts.Goals as goal

pub place_parts-placed-requires : goal.place_parts-placed-requires
place_parts-placed-requires c = parts_asked (joined_ready c.requires) c.requires.asked.asked.prepared.around c.requires.rows_room

pub answer_placed-requires : goal.answer_placed-requires
answer_placed-requires c = placed_given c.requires c.place_parts-placed.ensures.placed (omega (arith, only_first_length c.place_parts-placed.ensures.rows_rest))

pub returns : goal.returns
returns c =
    let g : Graph = c.args.g.now in
    let rows_only : OnlyFirst (g.vertices * length c.args.roots.now) c.args.rows.now c.place_parts-placed.new.rows = let few : c.place_parts-placed.result.parts ≤ g.vertices = placed_few c.requires c.place_parts-placed.ensures.placed in
    only_first_of_more c.place_parts-placed.ensures.rows_rest (g.vertices * length c.args.roots.now) (omega (arith, mul-le-mul_right (length c.args.roots.now) few)) in
    record { answers = c.answer_placed.ensures.answers; rows_rest = rows_only; edges_rest = c.answer_placed.ensures.edges_rest }
