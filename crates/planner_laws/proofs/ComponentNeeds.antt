-- What the components need, without growing or splitting their trees: the sum, over the lowest vertices, of what the forest's edges with that
-- vertex's label ask for.
-- Assumes nothing.
use Prim.Native.Nat.{ℕ, ◌+◌, ◌*◌, ◌/◌}
use mathlib.Core.Path.{◌≡◌, sym, ap, ◌∙◌}
use Rattle.lists.specs.Lists.{sum_of}
use Rattle.lists.specs.Member.{◌∈◌}
use Rattle.lists.proofs.SumsAlike.{sum_same, sum_of_map}
use Rattle.graph.specs.Graph.{Graph}
use Rattle.rules.specs.Walk.{total_weight}
use Rattle.rules.specs.Labels.{apart}
use Rattle.rules.specs.Forest.{labels_at, lowest}
use Rattle.rules.specs.Grow.{Rooted}
use Rattle.rules.specs.UnrootedTrial.{components, needs, needed}
use Rattle.split_laws.proofs.Whole.{EndsInside}
use Rattle.planner_laws.proofs.ComponentEdges.{label_edges, component_roots, component_weight}

-- What the component of the lowest vertex r needs: 1, and 1 for each 2 B that the forest's edges with its label weigh.
abbrev pub needs_at : Graph → ℕ → ℕ → ℕ
needs_at g limit r = 1 + total_weight g (label_edges g limit r) / (2 * limit)

module _ (g : Graph) (limit : ℕ) where
  module _ (ends : EndsInside g) where
    -- A component needs what the forest's edges with its root's label ask for.
    pub component_needs : {t : Rooted} → t ∈ components g limit → needs g limit t ≡ needs_at g limit t.root
    unfolding needs
    component_needs m = ap (λ w. 1 + w / (2 * limit)) (component_weight g limit ends m)

    -- The sum of what the components need, by the lowest vertices.
    pub needed_by_labels : needed g limit ≡ sum_of (needs_at g limit) (lowest g (labels_at g apart limit))
    unfolding needed
    needed_by_labels =
        sum_same (needs g limit) (λ t. needs_at g limit t.root) (components g limit) (λ t m. component_needs m)
        ∙ sym (sum_of_map (needs_at g limit) (λ (t : Rooted). t.root) (components g limit))
        ∙ ap (sum_of (needs_at g limit)) (component_roots g limit)
