-- `rooted_answer::answer_rooted` meets its contract: a vertex that the forest within the limit joins to no root is the answer, and otherwise the
-- parts say it, in arrays that the number of vertices and roots decides. Assumes nothing.
use Prim.Native.Nat.{ℕ}
use mathlib.Core.Path.{◌≡◌, sym, ap, ◌∙◌}
use mathlib.Core.List.{List}
use native.Mathlib.Nat.{mul-le-mul}
use native.Mathlib.Omega.{arith}
use lib.ListN.{take}
use lib.Seq.{length-take-le}
use Rattle.std.specs.Prelude.{Option, None}
use Rattle.graph.specs.Graph.{Graph}
use Rattle.forest.specs.Lowest.{vertex_in}
use Rattle.pieces.specs.Whole.{StopFound, LightForest}
use Rattle.rooted_answer.specs.Answer.{RootedAnswerAsked, JoinedAsked}
use Rattle.rooted_state.proofs.RootsReady.{roots_inside}
use Rattle.rooted_state.proofs.LimitDecided.{stop_asked, stop_is}
use Rattle.rooted_answer.proofs.PlacedAnswered.{joined_asked}
use Rattle.rooted_answer.proofs.RootedAnswers.{answers_stop}
use Rattle.rooted_answer.proofs.answer_rooted.Goals as goal

pub slice_bounds-stop_at-end : goal.slice_bounds-stop_at-end
slice_bounds-stop_at-end c = sym (length-take-le _ _ c.light_forest-light.ensures.few)

pub stop_at-requires : goal.stop_at-requires
stop_at-requires c = stop_asked c.requires.prepared.decidable.given

pub overflow_mul-vertex_count : goal.overflow_mul-vertex_count
overflow_mul-vertex_count c =
    let h = mul-le-mul c.requires.prepared.decidable.given.valid.vertices_most c.requires.prepared.decidable.given.few in
    rw c.vertex_count.ensures.is (omega arith)

-- No vertex was found: every vertex is joined to a root.
none_left : {g : Graph} {roots : List ℕ} {limit : ℕ} {order kept bounds arcs distances lasts : List ℕ} {room light : ℕ} {before after : List ℕ} {r : Option ℕ}
    → RootedAnswerAsked g roots limit order kept bounds arcs distances lasts room → LightForest g kept limit light → StopFound g roots (take light kept) before after r
    → r ≡ None → JoinedAsked g roots limit order bounds arcs distances lasts room
none_left {g} {roots} asked light s q = joined_asked asked (stop_is g roots asked.prepared.decidable.forest light s ∙ ap vertex_in q)

pub answer_sized-requires : goal.answer_sized-requires
answer_sized-requires c =
    record {
      asked = none_left c.requires c.light_forest-light.ensures c.stop_at.ensures c.in_default.is;
      fits = rw c.vertex_count.ensures.is at c.if-vertex_count-roots-le512.true;
      size_most = omega arith;
    }

pub answer_sized-requires-2 : goal.answer_sized-requires-2
answer_sized-requires-2 c =
    let given = c.requires.prepared.decidable.given in
    record {
      asked = none_left c.requires c.light_forest-light.ensures c.stop_at.ensures c.in_default.is;
      fits = omega (arith, mul-le-mul given.valid.vertices_most given.few);
      size_most = omega arith;
    }

pub returns-in-Some : goal.returns-in-Some
returns-in-Some c =
    let g : Graph = c.args.g.now in
    answers_stop g c.args.roots.now c.args.limit c.requires.prepared.decidable.given.valid (roots_inside c.requires.prepared.decidable.given)
    (stop_is g c.args.roots.now c.requires.prepared.decidable.forest c.light_forest-light.ensures c.stop_at.ensures ∙ ap vertex_in c.in-Some.is) c.args.buf.now
