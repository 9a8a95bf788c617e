-- The question that the code's values ask, and the tests of its crews: of their number and of the list of their roots.
-- Assumes nothing.
use Rattle.std.specs.Prelude.{ℕ, ◌*◌, ◌≤◌, ◌≡◌, Bool, true, false, List}
use Rattle.std.proofs.Math.Option.{Option, some, none}
use Rattle.graph.specs.Bytes.{u16_at}
use Rattle.rules.specs.Questions as rules
use Rattle.rules.specs.Questions.{crew_fault, van_fault}
use Rattle.admit.specs.declared.crews.Kind.{Kind}
use Rattle.admit.specs.declared.crews.Kind.TheVariants.{Rooted, Unrooted}
use Rattle.admit.specs.declared.refusal.Refusal.TheVariants.{Crews, Vans}
use Rattle.admit.specs.Refusals.{number_of}

-- The kind as the rules have it.
abbrev pub kind_of : Kind → rules.Kind
kind_of Rooted = rules.yards
kind_of Unrooted = rules.roving

-- The question without lists, and the same with those that are brought.
abbrev pub asks : Kind → ℕ → List ℕ → rules.Question
asks kind k b = rules.question (kind_of kind) k b

abbrev pub with_lists : rules.Question → Option (List ℕ) → Option (List ℕ) → rules.Question
with_lists q classes vans = record { kind = q.kind; k = q.k; sheet = q.sheet; classes = classes; vans = vans }

-- r says whether the number of crews is not refused, beside the list of vans that is brought, or none.
pub record CrewsTested (kind : Kind) (k n : ℕ) (vans : Option (List ℕ)) (r : Bool) : Type 0 where
  pub right : r ≡ true → crew_fault (kind_of kind) k vans n ≡ none
  pub wrong : r ≡ false → crew_fault (kind_of kind) k vans n ≡ some (number_of Crews)

-- r says whether a list of vans is not refused.
pub record VansTested (k : ℕ) (vans : List ℕ) (n : ℕ) (r : Bool) : Type 0 where
  pub right : r ≡ true → van_fault rules.yards k (some vans) n ≡ none
  pub wrong : r ≡ false → van_fault rules.yards k (some vans) n ≡ some (number_of Vans)

-- The vertex where crew j starts: one of `roots_by`, where there are so many.
abbrev pub root_at : Option (List ℕ) → ℕ → ℕ
root_at none j = j
root_at (some vans) j = u16_at vans (2 * j)

-- There is room for the roots of k crews, and each number fits a field of two bytes.
pub record RootsAsked (k room : ℕ) : Type 0 where
  pub few : k ≤ 65536
  pub fits : k ≤ room
