-- From labels to loops: where the labels that the other edges make keep the ends of each edge apart, and roots that are linked have equal
-- labels from the start, no edge has both ends linked to roots by the others. For linked vertices have equal labels.
-- Assumes nothing.
use Prim.Native.Nat.{ℕ}
use mathlib.Core.Path.{◌≡◌, sym, ◌∙◌}
use mathlib.Core.List.{List}
use Rattle.lists.specs.Lists.{without}
use Rattle.lists.specs.Member.{◌∈◌}
use Rattle.lists.proofs.Member.{of_without}
use Rattle.lists.proofs.Without.{without_within}
use Rattle.graph.specs.Graph.{Graph}
use Rattle.rules.specs.Walk.{Linked}
use Rattle.rules.specs.Labels.{Labels, merge_all}
use Rattle.rules.proofs.Linked.{linked_on, linked_back, linked_ends, linked_more}
use Rattle.forest_laws.proofs.Merging.{JoinsEnds, merged_coarser}
use Rattle.forest_laws.proofs.Walks.{linked_merged}
use Rattle.split_laws.proofs.Once.{Untied}

-- The order of the edges does not matter, nor do fewer of them.
pub untied_fewer : {g : Graph} {roots edges fewer : List ℕ} → ((e : ℕ) → e ∈ fewer → e ∈ edges) → Untied g roots edges → Untied g roots fewer
untied_fewer sub h e m (r, i, a) (s, k, b) = h e (sub e m) (r, i, linked_more (without_within e sub) a) (s, k, linked_more (without_within e sub) b)

-- The edges have no loop, in terms of labels: the other edges do not join an edge's ends, and roots that the edges link are joined from the
-- start.
pub record NoLoopByLabels (g : Graph) (label : Labels) (roots edges : List ℕ) : Type 0 where
  pub alike : (r s : ℕ) → r ∈ roots → s ∈ roots → Linked g edges r s → label r ≡ label s
  pub no_loop : (e : ℕ) → e ∈ edges → JoinsEnds g (merge_all g label (without e edges)) e → ⊥

-- Then no edge has both its ends linked to roots by the others.
pub labels_untied : {g : Graph} {label : Labels} {roots edges : List ℕ} → NoLoopByLabels g label roots edges → Untied g roots edges
labels_untied {g} {label} {roots} {edges} h e m (r, i, a) (s, k, b) =
    h.no_loop e m (sym (linked_merged g others label a) ∙ merged_coarser g label others r s (h.alike r s i k across) ∙ linked_merged g others label b)
  where
    others : List ℕ
    others = without e edges

    whole : {u v : ℕ} → Linked g (without e edges) u v → Linked g edges u v
    whole l = linked_more (λ f n. (of_without e edges n).0) l

    across : Linked g edges r s
    across = linked_on (whole a) (linked_on (linked_ends m) (linked_back (whole b)))
