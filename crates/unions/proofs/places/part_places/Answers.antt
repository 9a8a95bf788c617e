-- `unions::places::part_places` meets its contract. The loop's invariant: the places before the first piece of the next tree are
-- written. Assumes nothing.
use Prim.Native.Nat.{ℕ, ◌+◌, ◌-◌, ◌^◌, ◌≤◌, ◌<◌}
use mathlib.Core.Path.{◌≡◌}
use mathlib.Core.List.{List, ◌++◌}
use native.Mathlib.Omega.{arith}
use lib.ListN.{length, get_or, drop}
use Rattle.lists.specs.Count.{from}
use Rattle.lists.specs.Put.{PutTo}
use Rattle.lists.proofs.PutOneByOne.{PutSoFar, so_far_on, so_far_all, so_far_room}
use Rattle.lists.proofs.Runs.{length_from}
use Rattle.graph.specs.Bytes.{Reads}
use Rattle.pieces.specs.Pieces.{RunAsked}
use Rattle.unions.specs.Places.{places_between}
use Rattle.unions.proofs.PartsBetween.{between_next, between_none}
use Rattle.unions.proofs.places.part_places.Goals as goal

-- In a turn: the number of tree j's leftover was read.
module _ (lefts : List ℕ) (first j : ℕ) {before after : List ℕ} {next left : ℕ} (v : PutSoFar 0 (places_between 0 lefts) (places_between first (drop j lefts)) before after next)
    (h : j < length lefts) (w : Reads (get_or lefts j 0) (2 ^ 16) left) where
  rest-is : places_between first (drop j lefts) ≡ from first (left - first) ++ places_between (left + 1) (drop (j + 1) lefts)
  rest-is = rw w.is (between_next first lefts j h)

  asked : length (places_between 0 lefts) ≤ length before → RunAsked first left next (length after)
  asked room =
      record {
        small = omega (arith, w.small, w.is);
        fits = omega (arith, so_far_room v (from first (left - first)) _ rest-is (omega (arith, room)), length_from first (left - first));
      }

  next-tree : {now : List ℕ} {behind : ℕ} → PutTo next (from first (left - first)) after now behind
      → PutSoFar 0 (places_between 0 lefts) (places_between (left + 1) (drop (j + 1) lefts)) before now behind
  next-tree p = so_far_on v rest-is p

pub put_run-next-requires : goal.put_run-next-requires
put_run-next-requires c = asked c.args.lefts.now c.loop-left.first c.loop-left.left-index c.loop-left.invariant c.loop-left-test.true c.wide-left.ensures c.requires

pub loop-left-preserved : goal.loop-left-preserved
loop-left-preserved c = next-tree c.args.lefts.now c.loop-left.first c.loop-left.left-index c.loop-left.invariant c.loop-left-test.true c.wide-left.ensures c.put_run-next.ensures

pub returns : goal.returns
returns c = so_far_all c.loop-left.invariant (between_none c.loop-left.first c.args.lefts.now c.loop-left.left-index (omega (arith, c.loop-left-test.false)))
