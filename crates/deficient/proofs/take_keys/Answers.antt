-- `deficient::take_keys` meets its contract. The loop's invariant: the trees before i have their keys.
-- Assumes nothing.
use Prim.Native.Nat.{◌<◌}
use mathlib.Core.Path.{sym, ap, ◌∙◌}
use native.Mathlib.Omega.{arith}
use lib.ListN.{length, get_or}
use Rattle.lists.proofs.FirstElement.{head_at}
use Rattle.lists.proofs.SetUpTo.{set_more}
use Rattle.deficient.proofs.take_keys.Goals as goal

pub loop-i-preserved : goal.loop-i-preserved
loop-i-preserved c =
    let room : c.loop-i.i < length c.loop-i.keys = omega (arith, c.loop-i-test.true, c.requires.fits, c.loop-i.invariant.size) in
    set_more c.loop-i.invariant room
    (c.number_at.ensures.is ∙ ap (λ xs. get_or xs 0 0) c.edges_at.ensures.is ∙ sym (head_at _))
