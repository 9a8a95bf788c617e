-- Unrooted, too low: where the components need more than k trees, every cover by at most k trees has a tree above the limit. For in a cover
-- within the limit each component has its share, and no tree is in two components.
-- Assumes nothing.
use Prim.Native.Nat.{ℕ, ◌≤◌, ◌<◌}
use mathlib.Core.Path.{◌≡◌, sym, ◌∙◌}
use mathlib.Core.Bool.{true}
use mathlib.Core.List.{List}
use native.Mathlib.Omega.{arith}
use lib.ListN.{length}
use borrow.Author.Tests.{eqb-true}
use Rattle.lists.proofs.InOrder.{InOrder, in_order_within}
use Rattle.lists.proofs.Largest.{in_largest}
use Rattle.lists.proofs.SumsAlike.{sum_no_more}
use Rattle.lists.proofs.Shares.{shares}
use Rattle.graph.specs.Graph.{Graph}
use Rattle.rules.specs.Cover.{Tree, tree_weight, heaviest, AllCovered, IsCover, unrooted}
use Rattle.rules.specs.Labels.{apart, joined}
use Rattle.rules.specs.Forest.{labels_at, lowest}
use Rattle.rules.specs.UnrootedTrial.{needed}
use Rattle.split_laws.proofs.Lowest.{lowest_inside, lowest_rising, lowest_first}
use Rattle.split_laws.proofs.Whole.{EndsInside}
use Rattle.planner_laws.proofs.ComponentNeeds.{needs_at, needed_by_labels}
use Rattle.planner_laws.proofs.ComponentShare.{EachWithin, trees_at, component_share}

-- No two of the lowest vertices have the label of one tree's start.
one_component_each : (g : Graph) (limit : ℕ) (t : Tree)
    → InOrder (λ (r s : ℕ). joined (labels_at g apart limit) r t.start ≡ true → joined (labels_at g apart limit) s t.start ≡ true → ⊥) (lowest g (labels_at g apart limit))
unfolding joined
one_component_each g limit t =
    in_order_within (lowest_rising g (labels_at g apart limit))
    (λ r s m n h p q. lowest_first g (labels_at g apart limit) n h (eqb-true _ _ p ∙ sym (eqb-true _ _ q)))

-- A cover with every tree within the limit has at least as many trees as the components need.
pub within_needs : {g : Graph} → EndsInside g → (limit : ℕ) {trees : List Tree} → AllCovered g trees → EachWithin g limit trees → needed g limit ≤ length trees
within_needs {g} ends limit {trees} cover within =
    let roots = lowest g (labels_at g apart limit) in
    omega (
      arith,
      needed_by_labels g limit ends,
      sum_no_more (needs_at g limit) (λ r. length (trees_at g limit trees r)) roots (λ r m. component_share ends limit cover within r (lowest_inside g (labels_at g apart limit) m)),
      shares (λ r (t : Tree). joined (labels_at g apart limit) r t.start) roots trees (λ t m. one_component_each g limit t),
    )

-- Where the components need more than k trees, every cover by at most k has a tree above the limit.
pub needs_too_low : {g : Graph} → EndsInside g → (k limit : ℕ) → k < needed g limit → (trees : List Tree) → IsCover g (unrooted k) trees → limit < heaviest g trees
unfolding heaviest
needs_too_low {g} ends k limit low trees cover =
    let never : heaviest g trees ≤ limit → ⊥ = λ h.
    omega (arith, within_needs ends limit cover.all_covered (λ t m. omega (arith, in_largest (tree_weight g) m)), cover.starts.1) in
    omega arith
