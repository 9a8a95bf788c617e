-- The sum of all weights, at which the search begins: it is within document 01's range, and is accepted wherever some cover exists, since every cover is
-- within it. So the search need not run that trial.
-- Assumes nothing.
use Prim.Native.Nat.{ℕ, ◌≤◌}
use mathlib.Core.Path.{◌≡◌, refl, ap}
use mathlib.Core.Bool.{Bool, true, false}
use mathlib.Core.List.{List}
use native.Mathlib.Omega.{arith}
use lib.ListN.{length}
use Rattle.lists.proofs.InOrder.{rising_once}
use Rattle.lists.proofs.Sums.{sum_within}
use Rattle.lists.proofs.Largest.{largest_most}
use Rattle.lists.proofs.Bounds.{sum_most}
use Rattle.lists.proofs.Sorting.{sort_length, sum_sort}
use Rattle.lists.proofs.Below.{of_below}
use Rattle.lists.proofs.Runs.{length_below}
use Rattle.lists.specs.Count.{below}
use Rattle.graph.specs.Graph.{Graph, edge_count, weight_of}
use Rattle.graph.specs.Valid.{Valid}
use Rattle.rules.specs.Walk.{total_weight}
use Rattle.rules.specs.Cover.{Tree, IsTree, tree_weight, heaviest, Crews, IsCover}
use Rattle.rules.specs.Order.{comes_before, ordered}
use Rattle.rules.specs.Search.{accepts, Bounds}
use Rattle.forest_laws.proofs.Ordering.{in_ordered}
use Rattle.rules.specs.Questions.{most_limit}
use Rattle.planner_laws.proofs.TrialBounds.{TrialBounds}

-- The sum of all weights, and the bounds at which the search begins.
abbrev pub all_weights : Graph → ℕ
all_weights g = total_weight g (ordered g)

abbrev pub first_bounds : Graph → Bounds
first_bounds g = record { low = 0; high = all_weights g }

-- A tree weighs at most all edges, and so does a cover's heaviest.
pub tree_within_sum : {g : Graph} {t : Tree} → IsTree g t → tree_weight g t ≤ all_weights g
unfolding tree_weight total_weight
tree_within_sum {g} tree = sum_within (weight_of g) (rising_once tree.rising) (λ e m. in_ordered g (tree.edges_inside e m))

pub cover_within_sum : {g : Graph} {crews : Crews} {trees : List Tree} → IsCover g crews trees → heaviest g trees ≤ all_weights g
unfolding heaviest
cover_within_sum {g} {trees = trees} cover = largest_most (tree_weight g) (all_weights g) trees (λ t m. tree_within_sum (cover.all_covered.are_trees t m))

-- A valid graph's edges weigh at most 2,048,000,000 together, below 2 to the 31st.
pub sum_bounded : {g : Graph} → Valid g → all_weights g ≤ most_limit
unfolding total_weight ordered
sum_bounded {g} valid =
    omega (
      arith,
      valid.edges_most,
      sum_sort (comes_before g) (weight_of g) (below (edge_count g)),
      sum_most (weight_of g) 1000000 (below (edge_count g)) (λ e m. (valid.each_edge e (of_below (edge_count g) m)).weight_most),
      length_below (edge_count g),
    )

-- It has at most 2,048 edges in order.
pub order_few : {g : Graph} {order : List ℕ} → Valid g → order ≡ ordered g → length order ≤ 2048
unfolding ordered
order_few {g} valid q =
    omega (arith, ap length q, sort_length (comes_before g) (below (edge_count g)), length_below (edge_count g), valid.edges_most)

module _ {g : Graph} {crews : Crews} (bounds : TrialBounds g crews) {some_trees : List Tree} (some_cover : IsCover g crews some_trees) where
  -- The sum of all weights is accepted.
  pub sum_accepted : accepts g crews (all_weights g) ≡ true
  sum_accepted = go (accepts g crews (all_weights g)) refl
    where
      go : (t : Bool) → accepts g crews (all_weights g) ≡ t → accepts g crews (all_weights g) ≡ true
      go true e = e
      go false e = absurd (omega (arith, bounds.refused_below (all_weights g) e some_trees some_cover, cover_within_sum some_cover))
