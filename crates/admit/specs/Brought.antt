-- A list that the code lends, and the test of the weights by class.
-- Assumes nothing.
use Rattle.std.specs.Prelude.{ℕ, ◌≡◌, Bool, true, false, List, Option, Some, None}
use Rattle.std.specs.Borrow.{Bor}
use Rattle.std.proofs.Math.Option as math
use Rattle.graph.specs.Graph.{Graph}
use Rattle.rules.specs.Questions.{adjusted_fault}
use Rattle.admit.specs.declared.refusal.Refusal.TheVariants.{Adjusted}
use Rattle.admit.specs.Refusals.{number_of}

-- A list as the code lends it, where it is brought: one of no bytes is a list.
abbrev pub lent : Option (Bor (List ℕ)) → math.Option (List ℕ)
lent (Some list) = math.some list.now
lent None = math.none

-- r says whether no weight is refused.
pub record WeightsTested (g : Graph) (r : Bool) : Type 0 where
  pub right : r ≡ true → adjusted_fault g ≡ math.none
  pub wrong : r ≡ false → adjusted_fault g ≡ math.some (number_of Adjusted)
