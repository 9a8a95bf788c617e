-- What a path weighs: as much the other way round, and at most as much as its edges may each weigh.
-- Assumes nothing.
use Prim.Native.Nat.{ℕ, ◌*◌, ◌≤◌}
use mathlib.Core.Path.{◌≡◌, refl}
use mathlib.Core.List.{List, [], ◌∷◌}
use native.Mathlib.Omega.{arith}
use lib.ListN.{length}
use Rattle.lists.specs.Lists.{sum_of}
use Rattle.lists.proofs.Bounds.{sum_most}
use Rattle.lists.proofs.Sums.{sum_append}
use Rattle.graph.specs.Graph.{Graph, weight_of}
use Rattle.graph.specs.Valid.{Valid}
use Rattle.graph.proofs.Ranges.{weight_at_most}
use Rattle.rules.specs.Walk.{total_weight}
use Rattle.rules.proofs.Linked.{turned}

-- Turned round, the edges weigh the same.
pub turned_weight : (g : Graph) (path : List ℕ) → total_weight g (turned path) ≡ total_weight g path
unfolding total_weight sum_of turned
turned_weight g [] = refl
turned_weight g (e ∷ path) = omega (arith, sum_append (weight_of g) (turned path) (e ∷ []), turned_weight g path)

-- Each edge of a valid graph weighs at most 1,000,000.
pub weight_most : {g : Graph} → Valid g → (path : List ℕ) → total_weight g path ≤ 1000000 * length path
unfolding total_weight
weight_most {g} valid path = omega (arith, sum_most (weight_of g) 1000000 path (λ e m. weight_at_most valid e))
