-- `filed::parents::set_apart` meets its contract. The loop's invariant: each vertex below v is its own parent. Assumes nothing.
use Rattle.forest.specs.Arrays.{Agrees}
use Rattle.filed.proofs.parents.set_apart.Given as goal

abbrev pub invariant-loop-v : goal.invariant-loop-v
invariant-loop-v l = Agrees l.v l.parents (λ x. x)
