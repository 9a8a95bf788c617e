-- `filed::parents::join_ends` meets its contract: who stands for the two ends is found, and the higher one takes the lower for its parent.
-- Assumes nothing.
use Prim.Native.Nat.{ℕ, ◌<◌}
use native.Mathlib.Omega.{arith}
use Rattle.graph.specs.Graph.{Graph, one_end, other_end}
use Rattle.graph.specs.Valid.{Valid}
use Rattle.graph.proofs.Ranges.{one_end_below, other_end_below}
use Rattle.filed.proofs.JoinedByParents.{joined_before, lower_first, lower_second}
use Rattle.filed.proofs.parents.join_ends.Goals as goal

-- The ends of an edge are among the 256 vertices that have a parent.
module _ {g : Graph} (valid : Valid g) (e : ℕ) where
  one_few : one_end g e < 256
  one_few = omega (arith, one_end_below valid e)

  other_few : other_end g e < 256
  other_few = omega (arith, other_end_below valid e)

pub stands_for-u-requires : goal.stands_for-u-requires
stands_for-u-requires c = (omega (arith, one_few c.requires.valid c.args.e, c.one_end.ensures.is), c.requires.parented)

pub stands_for-v-requires : goal.stands_for-v-requires
stands_for-v-requires c = (omega (arith, other_few c.requires.valid c.args.e, c.other_end.ensures.is), c.stands_for-u.ensures.short.parents)

pub returns-then-u-v : goal.returns-then-u-v
returns-then-u-v c =
    joined_before c.args.g.now c.args.e (one_few c.requires.valid c.args.e) (other_few c.requires.valid c.args.e)
    (rw c.one_end.ensures.is at c.stands_for-u.ensures) (rw c.other_end.ensures.is at c.stands_for-v.ensures) c.if-u-v.true

pub overflow_cast-parents : goal.overflow_cast-parents
overflow_cast-parents c = omega (arith, one_few c.requires.valid c.args.e)

pub bounds-parents-v : goal.bounds-parents-v
bounds-parents-v c = omega (arith, other_few c.requires.valid c.args.e)

pub returns-then-u-v-2 : goal.returns-then-u-v-2
returns-then-u-v-2 c =
    lower_first c.args.g.now c.args.e (one_few c.requires.valid c.args.e) (other_few c.requires.valid c.args.e)
    (rw c.one_end.ensures.is at c.stands_for-u.ensures) (rw c.other_end.ensures.is at c.stands_for-v.ensures) c.if-u-v.false c.if-u-v-2.true

pub overflow_cast-parents-2 : goal.overflow_cast-parents-2
overflow_cast-parents-2 c = omega (arith, other_few c.requires.valid c.args.e)

pub bounds-parents-u : goal.bounds-parents-u
bounds-parents-u c = omega (arith, one_few c.requires.valid c.args.e, c.stands_for-u.ensures.below)

pub returns : goal.returns
returns c =
    lower_second c.args.g.now c.args.e (one_few c.requires.valid c.args.e) (other_few c.requires.valid c.args.e)
    (rw c.one_end.ensures.is at c.stands_for-u.ensures) (rw c.other_end.ensures.is at c.stands_for-v.ensures) c.if-u-v.false
    (omega arith)
