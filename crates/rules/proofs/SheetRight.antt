-- The graph's bytes ("sheet") are not refused exactly where they are a graph's.
-- Assumes nothing.
use Prim.Native.Nat.{ℕ}
use mathlib.Core.Path.{◌≡◌, refl, ap}
use mathlib.Core.List.{List}
use mathlib.Core.Logic.{◌↔◌}
use mathlib.Core.Option.{none, some-ne-none}
use Rattle.graph_check.specs.Check.{Answer, yes, number}
use Rattle.graph.specs.Valid.{IsGraph}
use Rattle.graph_check.proofs.Exactly.{yes_graph, graph_yes}
use Rattle.rules.specs.Questions.{number_in, sheet_fault}

-- Where a check's answer refuses nothing, it is yes with two counts.
quiet_yes : (a : Answer) → number_in a ≡ none → (n : ℕ) × (m : ℕ) × (a ≡ yes n m)
unfolding number_in
quiet_yes (yes n m) e = (n, m, refl)
quiet_yes (number k) e = absurd (some-ne-none k e)

-- Nothing is refused exactly where the bytes are a graph's.
pub sheet_right : (sheet : List ℕ) → (sheet_fault sheet ≡ none) ↔ IsGraph sheet
unfolding sheet_fault number_in
sheet_right sheet = (λ e. (yes_graph sheet (quiet_yes _ e).2).graph, λ is. ap number_in (graph_yes sheet is))
