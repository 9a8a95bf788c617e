-- A leaf edge is never skipped: where the leaf is joined to no other vertex at the start, no other edge joins it, so that its ends are apart when
-- its turn comes. So a forest has each leaf edge within its limit, and the tree made of a union has each leaf edge of the union.
-- Assumes nothing.
use Prim.Native.Nat.{ℕ, ◌≤◌}
use mathlib.Core.Path.{◌≡◌, sym, ◌∙◌}
use mathlib.Core.Bool.{true, false, cond}
use mathlib.Core.List.Memᴰ
use mathlib.Core.List.{List}
use mathlib.Core.Logic.{◌⊎◌, inl, inr}
use native.Mathlib.Omega.{arith}
use lib.Dec.{eqb}
use borrow.Author.Tests.{eq-eqb, ne_eqb}
use Rattle.lists.specs.Lists.{filter, member, times}
use Rattle.lists.specs.Member.{◌∈◌}
use Rattle.lists.specs.Sort.{rise}
use Rattle.lists.proofs.Below.{equal_or_not}
use Rattle.lists.proofs.Member.{either, in_filter, of_filter, in_member, member_in, member_out}
use Rattle.lists.proofs.InOrder.{rising_once}
use Rattle.lists.proofs.Sorting.{in_rise}
use Rattle.lists.proofs.Times.{in_times, not_in_times, once_times}
use Rattle.graph.specs.Graph.{Graph, one_end, other_end, weight_of}
use Rattle.rules.specs.Walk.{Joins, onward, back}
use Rattle.rules.specs.Labels.{Labels, apart, together, merge_all}
use Rattle.rules.specs.Order.{ordered, light}
use Rattle.rules.specs.Forest.{keep, forest}
use Rattle.rules.specs.RootedTrial.{union_tree}
use Rattle.rules.proofs.Leaf.{Leaf, AllInside, other_one_end, other_other_end}
use Rattle.forest_laws.proofs.Merging.{◌⊑◌, JoinsEnds, merged_joins, merged_finest}
use Rattle.forest_laws.proofs.Keeping.{kept_subset, kept_merges}
use Rattle.forest_laws.proofs.Roots.{together_cases}
use Rattle.forest_laws.proofs.Ordering.{in_ordered, of_ordered}
use Rattle.forest_laws.proofs.Limit.{in_light, of_light}
use Rattle.forest_laws.proofs.Thinning.{thinned, Spans, thinned_spans}

-- The labels join the vertex to no other.
abbrev pub Alone : Labels → ℕ → Type 0
Alone P c = (v : ℕ) → P v ≡ P c → v ≡ c

-- All vertices are apart at the start; or all but the roots are.
pub apart_alone : (c : ℕ) → Alone apart c
unfolding apart
apart_alone c v q = q

pub together_alone : (roots : List ℕ) {c : ℕ} → (c ∈ roots → ⊥) → Alone (together roots) c
together_alone roots {c} out v q = go (together_cases roots v c q)
  where
    go : (v ≡ c) ⊎ ((v ∈ roots) × (c ∈ roots)) → v ≡ c
    go (inl p) = p
    go (inr (m, n)) = absurd (out n)

-- Labels that tell c from all other vertices, and nothing else.
is_vertex : ℕ → Labels
is_vertex c v = cond (eqb v c) 1 0

is_vertex_lem : {c v : ℕ} → v ≡ c → is_vertex c v ≡ 1
unfolding is_vertex
is_vertex_lem {c} {v} q = rw (eq-eqb v c q)

is_other : {c v : ℕ} → (v ≡ c → ⊥) → is_vertex c v ≡ 0
unfolding is_vertex
is_other {c} {v} d = rw (ne_eqb v c d)

-- Where c is alone, they join all that the labels join.
alone_finer : {P : Labels} {c : ℕ} → Alone P c → P ⊑ is_vertex c
alone_finer {P} {c} alone u v q = go (equal_or_not u c) (equal_or_not v c)
  where
    go : (u ≡ c) ⊎ (u ≡ c → ⊥) → (v ≡ c) ⊎ (v ≡ c → ⊥) → is_vertex c u ≡ is_vertex c v
    go (inl a) (inl b) = is_vertex_lem a ∙ sym (is_vertex_lem b)
    go (inl a) (inr b) = absurd (b (alone v (sym q ∙ rw a)))
    go (inr a) (inl b) = absurd (a (alone u (q ∙ rw b)))
    go (inr a) (inr b) = is_other a ∙ sym (is_other b)

module _ {g : Graph} {e s c : ℕ} (leaf : Leaf g e s c) where
  -- Other edges do not join the leaf to the vertex at the other end of its edge.
  leaf_apart : {P : Labels} → Alone P c → (E : List ℕ) → AllInside g E → (e ∈ E → ⊥) → JoinsEnds g (merge_all g P E) e → ⊥
  leaf_apart {P} alone E inside out q = go leaf.joins
    where
      other : (f : ℕ) → f ∈ E → f ≡ e → ⊥
      other f m p = out (Memᴰ.cast (sym p) m)

      ends : is_vertex c (one_end g e) ≡ is_vertex c (other_end g e)
      ends =
          merged_finest g P (is_vertex c) E (alone_finer alone)
          (λ f m. is_other (other_one_end leaf (inside f m) (other f m)) ∙ sym (is_other (other_other_end leaf (inside f m) (other f m))))
          (one_end g e) (other_end g e) q

      go : Joins g e s c → ⊥
      go (onward a b) = omega (arith, ends, is_other {c = c} {v = one_end g e} (λ p. leaf.apart (a ∙ p)), is_vertex_lem (sym b))
      go (back a b) = omega (arith, ends, is_other {c = c} {v = other_end g e} (λ p. leaf.apart (a ∙ p)), is_vertex_lem (sym b))

  -- So it is kept of every list that has it, where the leaf is alone at the start.
  pub leaf_kept : {P : Labels} → Alone P c → (E : List ℕ) → AllInside g E → e ∈ E → e ∈ keep g P E
  leaf_kept {P} alone E inside m = go (either (member e (keep g P E)))
    where
      go : (member e (keep g P E) ≡ true) ⊎ (member e (keep g P E) ≡ false) → e ∈ keep g P E
      go (inl t) = member_in e (keep g P E) t
      go (inr t) = absurd (leaf_apart alone (keep g P E) (λ f n. inside f (kept_subset g P E n)) (λ n. member_out e (keep g P E) (rw t) n) (rw (kept_merges g P E) (merged_joins g P E e m)))

  -- The forest at a limit has each leaf edge within the limit,
  leaf_in_forest : {P : Labels} → Alone P c → {limit : ℕ} → weight_of g e ≤ limit → e ∈ forest g P limit
  unfolding forest
  leaf_in_forest alone {limit} h = leaf_kept alone (light g limit) (λ f m. (of_light g limit m).0) (in_light g limit leaf.inside h)

  -- without roots, and with roots of which the leaf is none.
  pub leaf_kept_apart : {limit : ℕ} → weight_of g e ≤ limit → e ∈ forest g apart limit
  leaf_kept_apart h = leaf_in_forest (apart_alone c) h

  pub leaf_kept_together : (roots : List ℕ) → (c ∈ roots → ⊥) → {limit : ℕ} → weight_of g e ≤ limit → e ∈ forest g (together roots) limit
  leaf_kept_together roots out h = leaf_in_forest (together_alone roots out) h

  module _ (root : ℕ) (union : List ℕ) where
    -- The tree made of a union has each leaf edge of the union,
    pub leaf_in_union : e ∈ union → e ∈ (union_tree g root union).edges
    unfolding union_tree
    leaf_in_union m =
        let E : List ℕ = filter (λ f. member f union) (ordered g) in
        in_rise (leaf_kept (apart_alone c) E (λ f n. of_ordered g (of_filter (λ d. member d union) (ordered g) n).0) (in_filter (λ d. member d union) (in_ordered g leaf.inside) (in_member m)))

    -- as often as the union has it, where that is at most once.
    pub leaf_union_times : times e union ≤ 1 → times e (union_tree g root union).edges ≡ times e union
    unfolding union_tree
    leaf_union_times most = go (either (member e union))
      where
        spans : Spans g union (rise (thinned g union))
        spans = thinned_spans g union

        go : (member e union ≡ true) ⊎ (member e union ≡ false) → times e (rise (thinned g union)) ≡ times e union
        go (inl t) =
            let m : e ∈ union = member_in e union t in
            omega (arith, in_times m, in_times (leaf_in_union m), once_times (rising_once spans.rising) e)
        go (inr t) =
            let out : e ∈ union → ⊥ = λ n. member_out e union (rw t) n in
            not_in_times e (rise (thinned g union)) (λ n. out (spans.among e n)) ∙ sym (not_in_times e union out)
