-- `cover::write::entry_count` meets its contract. The loop's invariant: the sum is that of the trees so far.
-- Assumes nothing.
use Prim.Native.Nat.{ℕ, ◌+◌, ◌≤◌, ◌<◌}
use mathlib.Core.Path.{◌≡◌, refl}
use mathlib.Core.List.{List}
use native.Mathlib.Omega.{arith}
use lib.ListN.{length, take, get_or}
use Rattle.lists.specs.Lists.{sum_of}
use Rattle.lists.proofs.OneMore.{sum_first, sum_first_more}
use Rattle.cover.specs.Chosen.{size_at, entry_count}
use Rattle.cover.proofs.write.entry_count.Goals as goal

-- With the next tree's edges the sum is that of one tree more.
sum_next : (bounds chosen : List ℕ) (j : ℕ) {sum : ℕ} → j < length chosen → sum ≡ entry_count bounds (take j chosen)
    → sum + size_at bounds (get_or chosen j 0) ≡ entry_count bounds (take (j + 1) chosen)
unfolding entry_count
sum_next bounds chosen j h before = omega (arith, sum_first_more (size_at bounds) chosen j 0 h, before)

-- No more than that of all.
sum_within : (bounds chosen : List ℕ) (j : ℕ) → entry_count bounds (take j chosen) ≤ entry_count bounds chosen
unfolding entry_count
sum_within bounds chosen j = sum_first (size_at bounds) chosen j

pub loop-c-init : goal.loop-c-init
unfolding entry_count sum_of
loop-c-init c = refl

pub overflow_add-sum : goal.overflow_add-sum
overflow_add-sum c =
    omega (
      arith,
      sum_next c.args.bounds.now c.args.chosen.now c.loop-c.c-index (omega arith) c.loop-c.invariant,
      sum_within c.args.bounds.now c.args.chosen.now (c.loop-c.c-index + 1),
    )

pub loop-c-preserved : goal.loop-c-preserved
loop-c-preserved c = omega (arith, sum_next c.args.bounds.now c.args.chosen.now c.loop-c.c-index (omega arith) c.loop-c.invariant)
