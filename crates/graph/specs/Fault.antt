-- Numbers of refusal, tried one after the other: the first that applies is the answer.
-- Assumes nothing.
use Rattle.std.specs.Prelude.{ℕ, Bool, cond, List, [], ◌∷◌}
use Rattle.std.proofs.Math.Option.{Option, some, none}

-- The number of a refusal, where there is something to refuse.
abbrev pub Fault : Type 0
Fault = Option ℕ

-- The number, where the test holds.
unfoldable pub fault_if : Bool → ℕ → Fault
fault_if test number = cond test (some number) none

-- The number, where the test does not hold.
unfoldable pub fault_unless : Bool → ℕ → Fault
fault_unless test number = cond test none (some number)

-- The first number: "tried in the order listed".
unfoldable pub first_fault : List Fault → Fault
first_fault [] = none
first_fault (some number ∷ faults) = some number
first_fault (none ∷ faults) = first_fault faults

-- The refusal with its number, where there is one; otherwise the answer.
unfoldable pub refused_or : {A : Type 0} → (ℕ → A) → Fault → A → A
refused_or refused (some number) answer = refused number
refused_or refused none answer = answer
