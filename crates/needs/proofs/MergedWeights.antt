-- One merge of two components whose labels differ: the label that is lost is no longer its own, the other has the weight of both and of the edge,
-- and every other keeps its weight. So what the components sum to, of any value of their weights, changes by the two and the one.
-- Assumes nothing.
use Prim.Native.Nat.{ℕ, ◌+◌, ◌≤◌, ◌<◌}
use mathlib.Core.Path.{◌≡◌, sym, ap, ap₂, ◌∙◌}
use mathlib.Core.Bool.{true, false, cond}
use mathlib.Core.List.{List, [], ◌∷◌, ◌++◌}
use mathlib.Core.Logic.{inl, inr, dite}
use native.Mathlib.Decide.{ℕ_discrete}
use native.Mathlib.Omega.{arith}
use lib.Dec.{eqb}
use borrow.Author.Tests.{eq-eqb, ne_eqb}
use Rattle.lists.specs.Count.{count}
use Rattle.lists.specs.Lists.{filter, sum_of}
use Rattle.lists.proofs.Filters.{filter_append}
use Rattle.lists.proofs.SameTests.{filter_same}
use Rattle.lists.proofs.Sums.{sum_append, sum_split}
use Rattle.graph.specs.Graph.{Graph, one_end, other_end, weight_of}
use Rattle.rules.specs.Walk.{total_weight}
use Rattle.rules.specs.Labels.{Labels, merge, merge_edge}
use Rattle.forest_laws.proofs.VertexLabels.{VertexLabels, own, Cases, merge_each}
use Rattle.needs.proofs.ComponentWeights.{label_weight, components_sum}
use Rattle.needs.proofs.SumsBelow.{sum_filter_next, sum_below_but, sum_below_two, sum_below_count}

-- No label has more weight than all edges together.
pub label_no_more : (g : Graph) (label : Labels) (edges : List ℕ) (x : ℕ) → label_weight g label edges x ≤ total_weight g edges
unfolding total_weight
label_no_more g label edges x = omega (arith, sum_split (weight_of g) (λ e. eqb x (label (one_end g e))) edges)

module _ (g : Graph) (label : Labels) (s : VertexLabels g.vertices label) (e : ℕ) where
  -- The labels of the edge's ends, and the labels after the merge.
  abbrev a : ℕ
  a = label (one_end g e)

  abbrev c : ℕ
  c = label (other_end g e)

  abbrev after : Labels
  after = merge_edge g label e

  module _ (differ : a ≡ c → ⊥) where
    after_each : (x : ℕ) → Cases label (one_end g e) (other_end g e) x
    after_each = merge_each label (one_end g e) (other_end g e)

    -- What the vertex has for a label now.
    at_lost : (x : ℕ) → label x ≡ c → after x ≡ a
    unfolding merge_edge
    at_lost x q = go (after_each x)
      where
        go : Cases label (one_end g e) (other_end g e) x → merge label (one_end g e) (other_end g e) x ≡ a
        go (inl t) = t.1
        go (inr t) = absurd (t.0 q)

    at_other : (x : ℕ) → (label x ≡ c → ⊥) → after x ≡ label x
    unfolding merge_edge
    at_other x d = go (after_each x)
      where
        go : Cases label (one_end g e) (other_end g e) x → merge label (one_end g e) (other_end g e) x ≡ label x
        go (inl t) = absurd (d t.0)
        go (inr t) = t.1

    -- A label is its own,
    pub is_own : (x : ℕ) → own label (label x) ≡ true
    unfolding own
    is_own x = eq-eqb _ _ (s.itself x)

    -- so is the label that is kept,
    pub own_kept : own after a ≡ true
    unfolding own
    own_kept = eq-eqb _ _ (at_other a (λ q. differ (sym (s.itself (one_end g e)) ∙ q)) ∙ s.itself (one_end g e))

    -- the other is not,
    pub own_lost : own after c ≡ false
    unfolding own
    own_lost = ne_eqb _ _ (λ q. differ (sym (at_lost c (s.itself (other_end g e))) ∙ q))

    -- and nothing else changes.
    pub own_other : (x : ℕ) → (x ≡ c → ⊥) → own after x ≡ own label x
    unfolding own
    own_other x away =
        dite (ℕ_discrete (label x) c)
        (λ q. ne_eqb (after x) x (λ p. differ (sym (s.itself (one_end g e)) ∙ ap label (sym (at_lost x q) ∙ p) ∙ q)) ∙ sym (ne_eqb (label x) x (λ p. away (sym p ∙ q))))
        (λ d. ap (λ k. eqb k x) (at_other x d))

    -- An edge counts for the label that is kept where it counted for one of the two,
    part_kept : (u w : ℕ) → cond (eqb a (after u)) w 0 ≡ cond (eqb a (label u)) w 0 + cond (eqb c (label u)) w 0
    part_kept u w =
        dite (ℕ_discrete (label u) c)
        (λ q. rw (eq-eqb a (after u) (sym (at_lost u q)), ne_eqb a (label u) (λ p. differ (p ∙ q)), eq-eqb c (label u) (sym q)) (omega arith))
        (λ d. rw (at_other u d, ne_eqb c (label u) (λ p. d (sym p))) (omega arith))

    pub weight_kept : (E : List ℕ) → label_weight g after E a ≡ label_weight g label E a + label_weight g label E c
    unfolding total_weight sum_of filter
    weight_kept [] = omega arith
    weight_kept (x ∷ E) =
        omega (
          arith,
          sum_filter_next (λ d. eqb a (after (one_end g d))) (weight_of g) x E,
          sum_filter_next (λ d. eqb a (label (one_end g d))) (weight_of g) x E,
          sum_filter_next (λ d. eqb c (label (one_end g d))) (weight_of g) x E,
          part_kept (one_end g x) (weight_of g x),
          weight_kept E,
        )

    -- and for every other label where it did.
    test_other : (u x : ℕ) → (x ≡ a → ⊥) → (x ≡ c → ⊥) → eqb x (after u) ≡ eqb x (label u)
    test_other u x da dc =
        dite (ℕ_discrete (label u) c)
        (λ q. ne_eqb x (after u) (λ p. da (p ∙ at_lost u q)) ∙ sym (ne_eqb x (label u) (λ p. dc (p ∙ q))))
        (λ d. ap (eqb x) (at_other u d))

    pub weight_other : (E : List ℕ) (x : ℕ) → (x ≡ a → ⊥) → (x ≡ c → ⊥) → label_weight g after E x ≡ label_weight g label E x
    weight_other E x da dc = ap (total_weight g) (filter_same (λ d. eqb x (after (one_end g d))) (λ d. eqb x (label (one_end g d))) E (λ d m. test_other (one_end g d) x da dc))

    -- The edge itself counts for the label that is kept.
    end_kept : after (one_end g e) ≡ a
    end_kept = at_other (one_end g e) differ

    weight_added : (E : List ℕ) (x : ℕ) → label_weight g after (E ++ (e ∷ [])) x ≡ label_weight g after E x + cond (eqb x (after (one_end g e))) (weight_of g e) 0
    unfolding total_weight sum_of filter
    weight_added E x =
        omega (
          arith,
          ap (sum_of (weight_of g)) (filter_append (λ d. eqb x (after (one_end g d))) E (e ∷ [])),
          sum_append (weight_of g) (filter (λ d. eqb x (after (one_end g d))) E) (filter (λ d. eqb x (after (one_end g d))) (e ∷ [])),
          sum_filter_next (λ d. eqb x (after (one_end g d))) (weight_of g) e [],
        )

    pub added_kept : (E : List ℕ) → label_weight g after (E ++ (e ∷ [])) a ≡ weight_of g e + (label_weight g label E a + label_weight g label E c)
    added_kept E = omega (arith, weight_added E a, weight_kept E, rw (eq-eqb a (after (one_end g e)) (sym end_kept)) at (weight_added E a))

    pub added_other : (E : List ℕ) (x : ℕ) → (x ≡ a → ⊥) → (x ≡ c → ⊥) → label_weight g after (E ++ (e ∷ [])) x ≡ label_weight g label E x
    added_other E x da dc = omega (arith, weight_other E x da dc, rw (ne_eqb x (after (one_end g e)) (λ p. da (p ∙ end_kept))) at (weight_added E x))

    module _ (one : one_end g e < g.vertices) (other : other_end g e < g.vertices) where
      -- One label fewer is its own.
      pub own_fewer : count g.vertices (own after) + 1 ≡ count g.vertices (own label)
      own_fewer =
          let n = g.vertices in
          let here : ℕ → ℕ = λ v. cond (own label v) 1 0 in
          let there : ℕ → ℕ = λ v. cond (own after v) 1 0 in
          let lost : there c ≡ 0 = rw own_lost in
          let was : here c ≡ 1 = rw (is_own (other_end g e)) in
          omega (
            arith,
            sum_below_count n (own after),
            sum_below_count n (own label),
            sum_below_but n there here c (s.below (other_end g e) other) (λ v l d. ap (λ t. cond t 1 0) (own_other v d)),
          )

      -- The sum of a value loses those of the two weights, and gains that of the new one.
      pub sum_merged : (E : List ℕ) (φ : ℕ → ℕ)
          → components_sum g after (E ++ (e ∷ [])) φ + (φ (label_weight g label E a) + φ (label_weight g label E c))
          ≡ components_sum g label E φ + φ (weight_of g e + (label_weight g label E a + label_weight g label E c))
      sum_merged E φ =
          let n = g.vertices in
          let here : ℕ → ℕ = λ v. cond (own label v) (φ (label_weight g label E v)) 0 in
          let there : ℕ → ℕ = λ v. cond (own after v) (φ (label_weight g after (E ++ (e ∷ [])) v)) 0 in
          let lost : there c ≡ 0 = rw own_lost in
          let new : there a ≡ φ (weight_of g e + (label_weight g label E a + label_weight g label E c)) = rw (own_kept, added_kept E) in
          let was_a : here a ≡ φ (label_weight g label E a) = rw (is_own (one_end g e)) in
          let was_c : here c ≡ φ (label_weight g label E c) = rw (is_own (other_end g e)) in
          omega (
            arith,
            sum_below_two n there here a c (s.below (one_end g e) one) (s.below (other_end g e) other)
                (λ v l da dc. ap₂ (λ t w. cond t (φ w) 0) (own_other v dc) (added_other E v da dc))
                (λ q. absurd (differ q)),
          )
