-- Numbers tried one after the other refuse nothing exactly where each of the tests refuses nothing.
-- Assumes nothing.
use Prim.Native.Nat.{ℕ}
use mathlib.Core.Path.{◌≡◌, refl}
use mathlib.Core.Bool.{Bool, true, false}
use mathlib.Core.List.Memᴰ
use mathlib.Core.List.{List, [], ◌∷◌}
use mathlib.Core.Option.{some, none, some-ne-none}
use Rattle.lists.specs.Member.{◌∈◌}
use Rattle.graph.specs.Fault.{Fault, fault_if, fault_unless, first_fault}

-- Where a test that must not hold refuses nothing, it says no.
pub quiet_if : (b : Bool) (k : ℕ) → fault_if b k ≡ none → b ≡ false
unfolding fault_if
quiet_if true k e = absurd (some-ne-none k e)
quiet_if false k e = refl

-- A test that must hold refuses nothing exactly where it says yes.
pub quiet_unless : (b : Bool) (k : ℕ) → fault_unless b k ≡ none → b ≡ true
unfolding fault_unless
quiet_unless true k e = refl
quiet_unless false k e = absurd (some-ne-none k e)

pub unless_quiet : {b : Bool} (k : ℕ) → b ≡ true → fault_unless b k ≡ none
unfolding fault_unless
unless_quiet k e = rw e

-- The first of several refuses nothing exactly where none of them refuses.
pub quiet_each : {f : Fault} (fs : List Fault) → first_fault fs ≡ none → f ∈ fs → f ≡ none
unfolding first_fault
quiet_each {f = f} [] e m = elim m [ ]
quiet_each (none ∷ fs) e (Memᴰ.head q) = q
quiet_each (none ∷ fs) e (Memᴰ.tail m) = quiet_each fs e m
quiet_each (some k ∷ fs) e m = absurd (some-ne-none k e)

pub none_quiet : first_fault [] ≡ none
unfolding first_fault
none_quiet = refl

pub first_quiet : {f : Fault} (fs : List Fault) → f ≡ none → first_fault fs ≡ none → first_fault (f ∷ fs) ≡ none
unfolding first_fault
first_quiet fs p q = rw p q

-- A fault alone is the first.
pub one_fault : (f : Fault) → first_fault (f ∷ []) ≡ f
unfolding first_fault
one_fault none = refl
one_fault (some k) = refl
