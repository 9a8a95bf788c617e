-- `waiting::wait::least_from` meets its contract. The loop's invariant: the least of the first i of each half is known.
-- Assumes nothing.
use mathlib.Core.Path.{◌≡◌, refl}
use native.Mathlib.Omega.{arith}
use Rattle.waiting.proofs.KeyBlocks.{least_one, least_more, least_joined, min_lower}
use Rattle.waiting.proofs.wait.least_from.Goals as goal

pub loop-i-init : goal.loop-i-init
loop-i-init c = (least_one, least_one)

pub loop-i-preserved : goal.loop-i-preserved
loop-i-preserved c = (least_more c.loop-i.invariant.0 refl (min_lower c.min-one.ensures), least_more c.loop-i.invariant.1 refl (min_lower c.min-other.ensures))

pub returns : goal.returns
returns c =
    let all : c.loop-i.i ≡ 8 = omega arith in
    least_joined refl (rw all at c.loop-i.invariant.0) (rw all at c.loop-i.invariant.1) (min_lower c.min.ensures)
