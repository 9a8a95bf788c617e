-- The kept edges of a list by weight are the lightest that join as much. Each kept edge is exchanged for the edge of the other
-- list that first joins its ends, which stands later in the order: no cycles, no counting.
-- Assumes nothing.
use Prim.Native.Nat.{ℕ, ◌+◌, ◌≤◌}
use mathlib.Core.Path.{◌≡◌, refl, ap, ◌∙◌}
use mathlib.Core.List.Memᴰ
use mathlib.Core.List.{List, ◌∷◌, ◌++◌}
use mathlib.Core.Logic.{◌⊎◌, inl, inr}
use native.Mathlib.Omega.{arith}
use Rattle.lists.specs.Lists.{sum_of}
use Rattle.lists.specs.Member.{◌∈◌}
use Rattle.lists.proofs.InOrder.{first_before, rest_in_order}
use Rattle.lists.proofs.Middle.{middle_in, around_in, middle_cases, sum_middle}
use Rattle.graph.specs.Graph.{Graph, one_end, other_end, weight_of}
use Rattle.rules.specs.Walk.{total_weight}
use Rattle.rules.specs.Order.{ByWeight}
use Rattle.rules.specs.Labels.{Labels, merge_edge, merge_all}
use Rattle.rules.specs.Forest.{keep}
use Rattle.forest_laws.proofs.Merging.{JoinsEnds, ◌⊑◌, ⊑_trans, edge_coarser, edge_joins, edge_joined, merged_coarser, merged_joins, merged_finest, merged_monotone}
use Rattle.forest_laws.proofs.Keeping.{Kept, nothing, skipped, taken, kept}
use Rattle.forest_laws.proofs.Exchange.{FirstJoining, first_joining}

-- each edge of F stands in L, or its ends are joined from the start
abbrev pub Among : Graph → Labels → List ℕ → List ℕ → Type 0
Among g P L F = (f : ℕ) → f ∈ F → (f ∈ L) ⊎ JoinsEnds g P f

module _ (g : Graph) (P : Labels) (e : ℕ) (L F : List ℕ) where
  -- an edge whose ends are joined is not needed in the list
  among_skipped : JoinsEnds g P e → Among g P (e ∷ L) F → Among g P L F
  among_skipped p within f m = go (within f m)
    where
      go : (f ∈ (e ∷ L)) ⊎ JoinsEnds g P f → (f ∈ L) ⊎ JoinsEnds g P f
      go (inl (Memᴰ.head q)) = inr (rw q p)
      go (inl (Memᴰ.tail n)) = inl n
      go (inr q) = inr q

  -- nor is it after its ends have been joined
  among_taken : Among g P (e ∷ L) F → Among g (merge_edge g P e) L F
  among_taken within f m = go (within f m)
    where
      go : (f ∈ (e ∷ L)) ⊎ JoinsEnds g P f → (f ∈ L) ⊎ JoinsEnds g (merge_edge g P e) f
      go (inl (Memᴰ.head q)) = inr (rw q (edge_joins g P e))
      go (inl (Memᴰ.tail n)) = inl n
      go (inr q) = inr (edge_coarser g P e (one_end g f) (other_end g f) q)

  -- a kept edge is no heavier than an edge of F whose ends were apart
  first_lightest : ByWeight g (e ∷ L) → Among g P (e ∷ L) F → {f : ℕ} → f ∈ F → (JoinsEnds g P f → ⊥) → weight_of g e ≤ weight_of g f
  first_lightest s within {f} m apart = go (within f m)
    where
      go : (f ∈ (e ∷ L)) ⊎ JoinsEnds g P f → weight_of g e ≤ weight_of g f
      go (inl (Memᴰ.head q)) = rw q (omega arith)
      go (inl (Memᴰ.tail n)) = first_before s f n
      go (inr q) = absurd (apart q)

-- the kept edge e in place of the edge of F that first joins its ends: F joins no less
module _ (g : Graph) (P : Labels) (F : List ℕ) (e : ℕ) (j : FirstJoining g P F (one_end g e) (other_end g e)) where
  around : List ℕ
  around = j.before ++ j.after

  around_of : (f : ℕ) → f ∈ around → f ∈ F
  unfolding around
  around_of f m = rw j.split (around_in j.before j.edge j.after m)

  edge_of : j.edge ∈ F
  edge_of = rw j.split (middle_in j.before j.edge j.after)

  weight_around : total_weight g F ≡ weight_of g j.edge + total_weight g around
  unfolding total_weight around
  weight_around = ap (sum_of (weight_of g)) j.split ∙ sum_middle (weight_of g) j.before j.edge j.after

  around_joins : merge_all g P F ⊑ merge_all g (merge_edge g P e) around
  unfolding around merge_edge
  around_joins = merged_finest g P Q F (⊑_trans (edge_coarser g P e) (merged_coarser g (merge_edge g P e) around))
      (λ f m. go f (middle_cases j.before j.edge j.after (rw j.split at m)))
    where
      Q : Labels
      Q = merge_all g (merge_edge g P e) around

      go : (f : ℕ) → (f ≡ j.edge) ⊎ (f ∈ (j.before ++ j.after)) → JoinsEnds g Q f
      go f (inl q) = rw q (merged_monotone g (merge_edge g P e) (merge_edge g P e) j.before around (λ u v p. p) (λ x m. Memᴰ.append_left j.after m)
          (one_end g j.edge) (other_end g j.edge) j.exchanged)
      go f (inr m) = merged_joins g (merge_edge g P e) around f m

-- the theorem below, edge by edge
lightest : {g : Graph} {P : Labels} {L K : List ℕ} → Kept g P L K → ByWeight g L → (F : List ℕ) → Among g P L F
    → merge_all g P L ⊑ merge_all g P F → total_weight g K ≤ total_weight g F
unfolding merge_all total_weight sum_of
lightest nothing s F within links = omega arith
lightest {g} (skipped {P = P} {e = e} {E = L} p k) s F within links =
    lightest k (rest_in_order s) F (among_skipped g P e L F p within) (rw (edge_joined g P e p) at links)
lightest {g} (taken {P = P} {e = e} {E = L} {K = K} p k) s F within links =
    let j = first_joining g P F (one_end g e) (other_end g e) p (links (one_end g e) (other_end g e) (merged_joins g P (e ∷ L) e (Memᴰ.head refl))) in
    let F' = around g P F e j in
    let lighter : weight_of g e ≤ weight_of g j.edge = first_lightest g P e L F s within (edge_of g P F e j) j.apart in
    let rest : total_weight g K ≤ total_weight g F' =
    lightest k (rest_in_order s) F' (among_taken g P e L F' (λ f m. within f (around_of g P F e j f m))) (⊑_trans links (around_joins g P F e j)) in
    omega (arith, weight_around g P F e j)

-- the kept edges of a list by weight weigh no more than any edges of the list that join as much as the whole list does
pub kept_lightest : (g : Graph) (P : Labels) (L F : List ℕ) → ByWeight g L → Among g P L F → merge_all g P L ⊑ merge_all g P F → total_weight g (keep g P L) ≤ total_weight g F
kept_lightest g P L F s within links = lightest (kept g P L) s F within links
