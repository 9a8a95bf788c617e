-- `unions::deficient::count_allowed` meets its contract. The loop's invariant: r counts the roots before j that are allowed to some marked
-- part. Assumes nothing.
use Prim.Native.Nat.{ℕ}
use mathlib.Core.Path.{◌≡◌}
use mathlib.Core.Bool.{Bool, ◌&&◌}
use mathlib.Core.List.{List}
use Rattle.lists.specs.Count.{count, any_below}
use Rattle.matching.specs.Assignment.{marked}
use Rattle.matching.specs.Input.{allowed_at}
use Rattle.unions.proofs.deficient.count_allowed.Given as goal

-- Root j is allowed to some marked part.
abbrev pub someAllows : List ℕ → List ℕ → ℕ → ℕ → ℕ → Bool
someAllows rows marks p k j = any_below p (λ i. marked marks i && allowed_at rows k i j)

abbrev pub invariant-loop-j : goal.invariant-loop-j
invariant-loop-j l = l.r ≡ count l.j (someAllows l.rows l.marks l.p l.k)
