-- `exchange` meets its contract: each turn is one of `Exchanging`, and the place falls with each.
-- Assumes nothing.
use native.Mathlib.Omega.{arith}
use Rattle.lists.proofs.Put.{only_first_length}
use Rattle.matching.specs.State.{Place}
use Rattle.matching.proofs.Exchanging.{exchange_start, exchange_turn, exchange_end, here}
use Rattle.matching.proofs.path.exchange.Goals as goal
use Rattle.matching.proofs.path.exchange.Goals.{In-loop-place}

-- The place at hand is one of the search, behind the first.
turn : (c : In-loop-place) → Place c.args.i c.loop-place.owner c.args.parts.now c.args.via.now c.args.from.now c.loop-place.place
turn c = here c.loop-place.invariant c.requires.few c.requires.fits c.loop-place-test.true

pub loop-place-init : goal.loop-place-init
loop-place-init c = exchange_start c.requires

pub bounds-out-part : goal.bounds-out-part
bounds-out-part c = omega (arith, turn (goal.at.bounds-out-part c).In-loop-place, only_first_length c.loop-place.invariant.rest)

pub offset_bounds-from-root : goal.offset_bounds-from-root
offset_bounds-from-root c = omega (arith, turn (goal.at.offset_bounds-from-root c).In-loop-place)

pub bounds-from-root : goal.bounds-from-root
bounds-from-root c = omega (arith, turn (goal.at.bounds-from-root c).In-loop-place)

pub loop-place-smaller : goal.loop-place-smaller
loop-place-smaller c = omega (arith, turn (goal.at.loop-place-smaller c).In-loop-place)

pub loop-place-preserved : goal.loop-place-preserved
loop-place-preserved c = exchange_turn c.loop-place.invariant c.requires.few c.requires.fits c.loop-place-test.true

pub bounds-out-i : goal.bounds-out-i
bounds-out-i c = omega (arith, only_first_length c.loop-place.invariant.rest)

pub returns : goal.returns
returns c = exchange_end c.loop-place.invariant c.requires.few c.requires.fits c.loop-place-test.false
