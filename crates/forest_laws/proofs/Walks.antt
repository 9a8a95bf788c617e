-- Labels mean walks: starting with all vertices apart, two vertices have equal labels after merging along edges exactly where
-- a walk along those edges leads from one to the other.
-- Assumes nothing.
use Prim.Native.Nat.{ℕ}
use mathlib.Core.Path.{◌≡◌, refl, sym, ap, ◌∙◌}
use mathlib.Core.List.{List}
use mathlib.Core.Logic.{Equivalence, ◌↔◌}
use Rattle.graph.specs.Graph.{Graph}
use Rattle.rules.specs.Walk.{Linked}
use Rattle.rules.specs.Labels.{Labels, apart, merge_all}
use Rattle.rules.proofs.Linked.{linked_same, linked_back, linked_on, linked_ends, linked_least}
use Rattle.forest_laws.proofs.Merging.{JoinsAll, merged_joins, merged_least}

module _ (g : Graph) (E : List ℕ) where
  -- being linked is an equivalence
  pub linked_equivalence : Equivalence (Linked g E)
  linked_equivalence = record { refl = λ x. linked_same refl; symm = λ x y l. linked_back l; trans = λ x y z l k. linked_on l k }

  -- labels that join each edge's ends join what the edges link
  pub linked_joined : (Q : Labels) → JoinsAll g Q E → {u v : ℕ} → Linked g E u v → Q u ≡ Q v
  linked_joined Q ties l = linked_least (λ u v. Q u ≡ Q v) (λ u v p. ap Q p) (λ u v w p q. p ∙ q) (λ u v p. sym p) ties l

  -- what the edges link is joined by merging along them, whatever the labels at the start
  pub linked_merged : (P : Labels) {u v : ℕ} → Linked g E u v → merge_all g P E u ≡ merge_all g P E v
  linked_merged P l = linked_joined (merge_all g P E) (merged_joins g P E) l

  -- what is joined by merging along the edges, all apart at the start, is linked by them
  pub merged_linked : (u v : ℕ) → merge_all g apart E u ≡ merge_all g apart E v → Linked g E u v
  unfolding apart
  merged_linked u v p = merged_least g linked_equivalence apart (λ x y q. linked_same q) E (λ e m. linked_ends m) u v p

  -- both ways
  pub merged_is_linked : (u v : ℕ) → (merge_all g apart E u ≡ merge_all g apart E v) ↔ Linked g E u v
  merged_is_linked u v = (merged_linked u v, λ l. linked_merged apart l)
