-- `near::vertices::add_root` meets its contract. The loop's invariant: the root is added to the words of the first v vertices. Assumes nothing.
use Prim.Native.Nat.{◌<◌}
use mathlib.Core.Path.{refl}
use native.Mathlib.Omega.{arith}
use lib.Dec.{leb}
use lib.ListN.{get_or}
use Rattle.lists.proofs.OneOrZero.{bit_small}
use Rattle.lists.proofs.SetUpTo.{set_none}
use Rattle.near.proofs.NearWords.{root_more, root_all}
use borrow.Author.Rules.{rules}
use Rattle.near.proofs.vertices.add_root.Goals as goal

pub loop-v-init : goal.loop-v-init
loop-v-init c = set_none _

pub overflow_mul-word : goal.overflow_mul-word
overflow_mul-word c =
    let low : get_or c.loop-v.near c.loop-v.v 0 < 2147483648 = omega (arith, c.requires.low c.loop-v.v c.loop-v-test.true, c.loop-v.invariant.rest c.loop-v.v (omega arith)) in
    search rules

pub bounds-row-v : goal.bounds-row-v
bounds-row-v c = omega (arith, c.requires.room)

pub overflow_add-word : goal.overflow_add-word
overflow_add-word c =
    let low : get_or c.loop-v.near c.loop-v.v 0 < 2147483648 = omega (arith, c.requires.low c.loop-v.v c.loop-v-test.true, c.loop-v.invariant.rest c.loop-v.v (omega arith)) in
    let w = bit_small (leb (get_or c.args.row.now c.loop-v.v 0) c.args.limit) in
    search rules

pub loop-v-preserved : goal.loop-v-preserved
loop-v-preserved c = rw c.bits_within.ensures (root_more c.args.limit c.args.row.now c.loop-v.invariant c.loop-v-test.true refl)

pub returns : goal.returns
returns c = root_all _ _ c.loop-v.invariant c.loop-v-test.false
