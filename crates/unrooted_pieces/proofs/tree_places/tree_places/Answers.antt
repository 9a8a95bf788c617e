-- `unrooted_pieces::tree_places::tree_places` meets its contract. The loop's invariant: the numbers of the components before the index are written,
-- and the next component's pieces begin at `first`. Assumes nothing.
use Prim.Native.Nat.{ℕ, ◌+◌, ◌-◌, ◌≤◌, ◌<◌}
use mathlib.Core.Path.{◌≡◌, ap, ◌∙◌}
use mathlib.Core.List.{List, ◌++◌}
use native.Mathlib.Omega.{arith}
use lib.ListN.{length, get_or, drop}
use Rattle.lists.proofs.NextPlace.{rest_next, rest_none}
use Rattle.lists.proofs.PutOneByOne.{so_far_on, so_far_all, so_far_room}
use Rattle.lists.proofs.Runs.{length_from}
use Rattle.unrooted_pieces.specs.TreePlaces.{run, tree_end, tree_places}
use Rattle.unrooted_pieces.proofs.TreesPlaced.{end_most, places_next, places_none}
use Rattle.unrooted_pieces.proofs.tree_places.tree_places.Goals as goal

-- The trees of the next component, and those of the components behind it.
next_is : (cuts lefts : List ℕ) (first j : ℕ) → j < length lefts
    → tree_places cuts first (drop j lefts) ≡ run first (tree_end cuts first (get_or lefts j 0)) ++ tree_places cuts (get_or lefts j 0 + 1) (drop (j + 1) lefts)
next_is cuts lefts first j h = places_next cuts first (rest_next lefts j h)

pub put_run-next-requires : goal.put_run-next-requires
put_run-next-requires c =
    let left : ℕ = get_or c.args.lefts.now c.loop-left.left-index 0 in
    let ending : ℕ = tree_end c.args.cuts.now c.loop-left.first left in
    let ends : c.tree_end.result ≡ ending = c.tree_end.ensures ∙ ap (tree_end c.args.cuts.now c.loop-left.first) c.wide-left.ensures.is in
    let next = next_is c.args.cuts.now c.args.lefts.now c.loop-left.first c.loop-left.left-index c.loop-left-test.true in
    let room : c.loop-left.next + (ending - c.loop-left.first) ≤ length c.loop-left.out = omega (
      arith,
      so_far_room c.loop-left.invariant (run c.loop-left.first ending) _ next (omega (arith, c.requires.room)),
      length_from c.loop-left.first (ending - c.loop-left.first),
    ) in
    record {
      small = omega (arith, ends, end_most c.args.cuts.now c.loop-left.first left, c.wide-left.ensures);
      fits = rw ends room;
    }

pub loop-left-preserved : goal.loop-left-preserved
loop-left-preserved c =
    let next = next_is c.args.cuts.now c.args.lefts.now c.loop-left.first c.loop-left.left-index c.loop-left-test.true in
    let ends = c.tree_end.ensures ∙ ap (tree_end c.args.cuts.now c.loop-left.first) c.wide-left.ensures.is in
    rw c.wide-left.ensures.is (so_far_on c.loop-left.invariant next (rw ends at c.put_run-next.ensures))

pub returns : goal.returns
returns c = so_far_all c.loop-left.invariant (places_none c.args.cuts.now c.loop-left.first (rest_none c.args.lefts.now c.loop-left.left-index c.loop-left-test.false))
