-- The forest at a limit: its edges, the labels that it makes, its loops, its weight. Each theorem is one of the files before, of
-- the light edges.
-- Assumes nothing.
use Prim.Native.Nat.{ℕ, ◌≤◌, ◌<◌}
use mathlib.Core.Path.{◌≡◌}
use mathlib.Core.Bool.{Bool, not}
use mathlib.Core.List.{List, ◌++◌}
use mathlib.Core.Logic.{inl, ◌↔◌}
use Rattle.lists.specs.Lists.{filter, member, without}
use Rattle.lists.specs.Member.{◌∈◌}
use Rattle.lists.proofs.InOrder.{Once}
use Rattle.graph.specs.Graph.{Graph, edge_count, one_end, other_end, weight_of}
use Rattle.rules.specs.Walk.{Linked, total_weight}
use Rattle.rules.specs.Labels.{Labels, apart, together, merge_all}
use Rattle.rules.specs.Order.{light}
use Rattle.rules.specs.Forest.{forest, labels_at}
use Rattle.forest_laws.proofs.Merging.{JoinsEnds, ◌⊑◌, JoinsAll}
use Rattle.forest_laws.proofs.Walks.{merged_is_linked}
use Rattle.forest_laws.proofs.Roots.{Reached, LinkedOrReached, together_is_linked, root_is_reached}
use Rattle.forest_laws.proofs.Keeping.{kept_subset, kept_once, kept_merges}
use Rattle.forest_laws.proofs.Lightest.{kept_lightest}
use Rattle.forest_laws.proofs.Replacing.{kept_replaced, kept_replaced_by}
use Rattle.forest_laws.proofs.Loops.{kept_apart, kept_no_loop}
use Rattle.forest_laws.proofs.Limit.{in_light, of_light, light_by_weight}

-- each edge of the list is an edge of the graph and weighs at most the limit
abbrev pub Within : Graph → ℕ → List ℕ → Type 0
Within g limit E = (e : ℕ) → e ∈ E → (e < edge_count g) × (weight_of g e ≤ limit)

module _ (g : Graph) (P : Labels) (limit : ℕ) where
  -- its edges are light
  pub forest_light : Within g limit (forest g P limit)
  unfolding forest
  forest_light e m = of_light g limit (kept_subset g P (light g limit) m)

  -- each is there once, by weight, then number
  pub forest_once : Once (forest g P limit)
  unfolding forest
  forest_once = kept_once g P (light g limit)

  -- it makes the labels of all light edges
  pub forest_merges : merge_all g P (forest g P limit) ≡ labels_at g P limit
  unfolding forest labels_at
  forest_merges = kept_merges g P (light g limit)

  -- its other edges neither join nor link the ends of one of them
  pub forest_apart : {e : ℕ} → e ∈ forest g P limit → JoinsEnds g (merge_all g P (without e (forest g P limit))) e → ⊥
  unfolding forest
  forest_apart m = kept_apart g P (light g limit) m

  pub forest_no_loop : {e : ℕ} → e ∈ forest g P limit → Linked g (without e (forest g P limit)) (one_end g e) (other_end g e) → ⊥
  unfolding forest
  forest_no_loop m = kept_no_loop g P (light g limit) m

  -- it weighs no more than any light edges that join all that light edges join
  pub forest_lightest : (F : List ℕ) → Within g limit F → labels_at g P limit ⊑ merge_all g P F → total_weight g (forest g P limit) ≤ total_weight g F
  unfolding forest labels_at
  forest_lightest F within links =
      kept_lightest g P (light g limit) F (light_by_weight g limit) (λ f m. let r = within f m in inl (in_light g limit r.0 r.1)) links

  -- a part of it weighs no more than any light edges that, with its other edges, join the ends of each edge of the part
  pub forest_replaced : (s : ℕ → Bool) (T : List ℕ) → Within g limit T → JoinsAll g (merge_all g P (filter (λ e. not (s e)) (forest g P limit) ++ T)) (filter s (forest g P limit))
      → total_weight g (filter s (forest g P limit)) ≤ total_weight g T
  unfolding forest
  forest_replaced s T within joins = kept_replaced g P (light g limit) s T (λ e m. let r = within e m in in_light g limit r.0 r.1) joins (light_by_weight g limit)

  -- so it is with a part that is listed, each edge once
  pub forest_replaced_by : (S T : List ℕ) → Once S → ((e : ℕ) → e ∈ S → e ∈ forest g P limit) → Within g limit T
      → JoinsAll g (merge_all g P (filter (λ e. not (member e S)) (forest g P limit) ++ T)) S → total_weight g S ≤ total_weight g T
  unfolding forest
  forest_replaced_by S T once part within joins =
      kept_replaced_by g P (light g limit) S T (light_by_weight g limit) once part (λ e m. let r = within e m in in_light g limit r.0 r.1) joins

module _ (g : Graph) (limit : ℕ) where
  -- equal labels at a limit mean a walk in the forest
  pub labels_are_linked : (u v : ℕ) → (labels_at g apart limit u ≡ labels_at g apart limit v) ↔ Linked g (forest g apart limit) u v
  labels_are_linked u v = rw (← forest_merges g apart limit) (merged_is_linked g (forest g apart limit) u v)

  -- with roots joined from the start: a walk in the forest, or one to each from a root
  pub root_labels_are_linked : (roots : List ℕ) (u v : ℕ)
      → (labels_at g (together roots) limit u ≡ labels_at g (together roots) limit v) ↔ LinkedOrReached g roots (forest g (together roots) limit) u v
  root_labels_are_linked roots u v = rw (← forest_merges g (together roots) limit) (together_is_linked g roots (forest g (together roots) limit) u v)

  -- a root's label: a walk in the forest from a root
  pub root_label_is_reached : (roots : List ℕ) {r : ℕ} → r ∈ roots → (v : ℕ)
      → (labels_at g (together roots) limit r ≡ labels_at g (together roots) limit v) ↔ Reached g roots (forest g (together roots) limit) v
  root_label_is_reached roots m v = rw (← forest_merges g (together roots) limit) (root_is_reached g roots (forest g (together roots) limit) m v)
