-- `near::vertices::run_start` meets its contract. The loop's invariant: from i to j each root is at the vertex of the next. Assumes nothing.
use Prim.Native.Nat.{◌+◌, ◌-◌}
use mathlib.Core.Path.{◌≡◌}
use native.Mathlib.Omega.{arith}
use Rattle.near.proofs.NearWords.{run_found, run_back}
use Rattle.near.proofs.vertices.run_start.Goals as goal

pub loop-i-init : goal.loop-i-init
loop-i-init c = run_found

pub loop-i-preserved : goal.loop-i-preserved
loop-i-preserved c = run_back c.loop-i.invariant c.loop-i-test.true c.if-roots-i.false

pub returns-then-roots-i : goal.returns-then-roots-i
returns-then-roots-i c = let same : c.loop-i.i - 1 + 1 ≡ c.loop-i.i = omega arith in rw same c.loop-i.invariant

pub returns : goal.returns
returns c = let first : c.loop-i.i ≡ 0 = omega arith in rw first at c.loop-i.invariant
