-- `filed::parents::stands_for` meets its contract. The loop's invariant: x is on the way from v up, and `up` is its parent. The measure is x,
-- since parents fall. Assumes nothing.
use Prim.Native.Nat.{ℕ, ◌<◌}
use mathlib.Core.Path.{◌≡◌}
use mathlib.Core.List.{List}
use native.Mathlib.Omega.{arith}
use lib.ListN.{length, get_or, length-set}
use Rattle.filed.proofs.JoinedByParents.{OnTheWay, way_begins, way_on, way_ends}
use Rattle.filed.proofs.parents.stands_for.Goals as goal

-- On the way from a vertex, parents are within the array, and those of lower vertices are lower.
module _ {v x : ℕ} {before now : List ℕ} (small : v < 256) (o : OnTheWay v x before now) where
  inside : (x < 256) × (length now ≡ 256)
  inside = (omega (arith, o.below), o.short.parents.room)

  lower : {up next : ℕ} → up < x → next ≡ get_or now up 0 → next < x
  lower {up} h q = omega (arith, inside, o.short.parents.falls up (omega (arith, inside)))

pub parent-up-requires : goal.parent-up-requires
parent-up-requires c = omega (arith, c.requires.1.room, c.requires.0)

pub loop-up-init : goal.loop-up-init
loop-up-init c = (way_begins c.requires.1 c.args.v, c.parent-up.ensures.is)

pub parent-next-requires : goal.parent-next-requires
parent-next-requires c = omega (arith, inside c.requires.0 c.loop-up.invariant.0)

pub overflow_cast-parents : goal.overflow_cast-parents
overflow_cast-parents c = omega (arith, c.parent-next.ensures.small)

pub bounds-parents-x : goal.bounds-parents-x
bounds-parents-x c = omega (arith, inside c.requires.0 c.loop-up.invariant.0)

pub parent-up-requires-in-loop-up : goal.parent-up-requires-in-loop-up
parent-up-requires-in-loop-up c = omega (arith, inside c.requires.0 c.loop-up.invariant.0, lower c.requires.0 c.loop-up.invariant.0 (omega arith) c.parent-next.ensures.is, length-set c.loop-up.parents c.loop-up.x c.parent-next.result)

pub loop-up-smaller : goal.loop-up-smaller
loop-up-smaller c = lower c.requires.0 c.loop-up.invariant.0 (omega arith) c.parent-next.ensures.is

pub loop-up-preserved : goal.loop-up-preserved
loop-up-preserved c = (way_on c.requires.0 c.loop-up.invariant.0 c.loop-up.invariant.1 (omega arith) c.parent-next.ensures.is, c.parent-up-in-loop-up.ensures.is)

pub returns : goal.returns
returns c = way_ends c.requires.0 c.loop-up.invariant.0 c.loop-up.invariant.1 (omega arith)
