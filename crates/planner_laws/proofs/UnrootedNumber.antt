-- How many trees an unrooted answer has: at most as many as the components need.
-- Assumes nothing.
use Prim.Native.Nat.{ℕ, ◌≤◌}
use mathlib.Core.Path.{◌≡◌, ◌∙◌}
use mathlib.Core.List.{map}
use native.Mathlib.Omega.{arith}
use lib.ListN.{length}
use Rattle.lists.specs.Lists.{flat, sum_of}
use Rattle.lists.specs.Member.{◌∈◌}
use Rattle.lists.proofs.FlatMap.{in_flat_map, of_flat_map}
use Rattle.lists.proofs.SumsAlike.{sum_no_more, sum_flat_map, length_sum}
use Rattle.lists.proofs.Sorting.{in_sort, of_sort, sum_sort}
use Rattle.graph.specs.Graph.{Graph}
use Rattle.rules.specs.Cover.{Tree}
use Rattle.rules.specs.Grow.{Rooted}
use Rattle.rules.specs.UnrootedTrial.{components, needs, needed, component_trees, starts_before, unrooted_trees}
use Rattle.split_laws.proofs.Number.{trees_few}

module _ (g : Graph) (limit : ℕ) where
  -- A tree of the answer is a tree of one of the components, and the other way round.
  pub in_unrooted : {t : Rooted} {u : Tree} → t ∈ components g limit → u ∈ component_trees g limit t → u ∈ unrooted_trees g limit
  unfolding unrooted_trees
  in_unrooted m n = in_sort starts_before (in_flat_map (component_trees g limit) m n)

  pub of_unrooted : {u : Tree} → u ∈ unrooted_trees g limit → (t : Rooted) × (t ∈ components g limit) × (u ∈ component_trees g limit t)
  unfolding unrooted_trees
  of_unrooted m = of_flat_map (component_trees g limit) (components g limit) (of_sort starts_before (flat (map (component_trees g limit) (components g limit))) m)

  -- What is summed over the answer's trees is summed over those of each component.
  unrooted_sum : (h : Tree → ℕ) → sum_of h (unrooted_trees g limit) ≡ sum_of (λ t. sum_of h (component_trees g limit t)) (components g limit)
  unfolding unrooted_trees
  unrooted_sum h = sum_sort starts_before h (flat (map (component_trees g limit) (components g limit))) ∙ sum_flat_map h (component_trees g limit) (components g limit)

  -- The answer has at most as many trees as the components need.
  pub unrooted_few : length (unrooted_trees g limit) ≤ needed g limit
  unfolding needed
  unrooted_few =
      omega (
        arith,
        length_sum (unrooted_trees g limit),
        unrooted_sum (λ _. 1),
        sum_no_more (λ t. sum_of (λ _. 1) (component_trees g limit t)) (needs g limit) (components g limit) (λ t m. omega (arith, length_sum (component_trees g limit t), trees_few g limit t)),
      )
