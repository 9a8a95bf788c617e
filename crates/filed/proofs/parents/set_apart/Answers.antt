-- `filed::parents::set_apart` meets its contract. The loop's invariant: each vertex below v is its own parent. Assumes nothing.
use mathlib.Core.Path.{refl}
use native.Mathlib.Omega.{arith}
use Rattle.lists.proofs.SetUpTo.{stored_more}
use Rattle.filed.proofs.parents.set_apart.Goals as goal

pub loop-v-preserved : goal.loop-v-preserved
loop-v-preserved c = stored_more (λ x. x) c.loop-v.parents c.loop-v.v c.loop-v.v (omega arith) c.loop-v.invariant refl

pub returns : goal.returns
returns c = λ v h. c.loop-v.invariant v (omega arith)
