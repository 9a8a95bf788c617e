-- `graph::surface::adjust` meets its contract: it is the definition's expression, and small enough.
-- Assumes nothing.
use Prim.Native.Nat.{◌*◌, ◌≤◌}
use mathlib.Core.Path.{◌≡◌}
use native.Mathlib.Omega.{arith}
use Rattle.graph.specs.Surface.{percent_of, adjusted}
use Rattle.graph.proofs.Adjusted.{share_range}
use Rattle.graph.proofs.surface.adjust.Goals as goal

pub overflow_mul-result : goal.overflow_mul-result
overflow_mul-result c =
    let share_most : c.args.weight * c.percent.result ≤ c.args.weight * 200 = rw c.percent.ensures (share_range c.args.weight c.args.class).1 in
    record { fits = omega (arith, share_most) }

pub overflow_add-result : goal.overflow_add-result
overflow_add-result c =
    let share_most : c.args.weight * c.percent.result ≤ c.args.weight * 200 = rw c.percent.ensures (share_range c.args.weight c.args.class).1 in
    record { fits = omega (arith, share_most) }

pub returns : goal.returns
unfolding adjusted
returns c =
    let share_most : c.args.weight * c.percent.result ≤ c.args.weight * 200 = rw c.percent.ensures (share_range c.args.weight c.args.class).1 in
    let is : c.percent.result ≡ percent_of c.args.class = c.percent.ensures in
    record { is = rw is; small = omega (arith, share_most) }
