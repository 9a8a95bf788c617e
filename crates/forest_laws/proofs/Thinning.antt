-- Thinning: of any list U of edges, keep by weight each whose ends are not yet joined, and sort the kept ones by number. They are
-- rising, without a loop, no heavier than U, and link just what U links. (A number past the last edge links nothing new.)
-- Assumes nothing.
use Prim.Native.Nat.{ℕ, ◌≤◌, ◌<◌}
use mathlib.Core.Path.{◌≡◌, ap}
use mathlib.Core.Bool.{true, false}
use mathlib.Core.List.{List}
use mathlib.Core.Logic.{◌⊎◌, inl, inr}
use lib.Dec.{ltb}
use borrow.Author.Tests.{ltb-true, ltb-false}
use Rattle.lists.specs.Lists.{filter, member, without}
use Rattle.lists.specs.Member.{◌∈◌}
use Rattle.lists.specs.Sort.{rise}
use Rattle.lists.proofs.Member.{either, in_filter, of_filter, member_in, in_member}
use Rattle.lists.proofs.InOrder.{Once, Rising, rising_once}
use Rattle.lists.proofs.Sums.{sum_within}
use Rattle.lists.proofs.Sorting.{in_rise, of_rise, sum_rise, rise_rising}
use Rattle.graph.specs.Graph.{Graph, edge_count, one_end, other_end, weight_of}
use Rattle.graph.proofs.Decoded.{past_ends}
use Rattle.rules.specs.Walk.{Linked, total_weight}
use Rattle.rules.specs.Labels.{apart, merge_all}
use Rattle.rules.specs.Order.{ordered}
use Rattle.rules.specs.Forest.{keep}
use Rattle.rules.proofs.Linked.{linked_more}
use Rattle.forest_laws.proofs.Merging.{JoinsEnds, JoinsAll, merged_joins}
use Rattle.forest_laws.proofs.Walks.{linked_joined, merged_linked}
use Rattle.forest_laws.proofs.Keeping.{kept_subset, kept_once, kept_merges}
use Rattle.forest_laws.proofs.Loops.{kept_whole, kept_whole_within, kept_whole_is_loopless}
use Rattle.forest_laws.proofs.Ordering.{in_ordered, of_ordered}

-- sorting by number keeps the weight
pub rise_weight : (g : Graph) (E : List ℕ) → total_weight g (rise E) ≡ total_weight g E
unfolding total_weight
rise_weight g E = sum_rise (weight_of g) E

-- the edges of U that are kept, by weight
abbrev pub thinned : Graph → List ℕ → List ℕ
thinned g U = keep g apart (filter (λ e. member e U) (ordered g))

module _ (g : Graph) (U : List ℕ) where
  -- they are edges of the graph, and of U
  pub thinned_of : {e : ℕ} → e ∈ thinned g U → (e < edge_count g) × (e ∈ U)
  thinned_of {e} m =
      let r = of_filter (λ x. member x U) (ordered g) (kept_subset g apart (filter (λ x. member x U) (ordered g)) m) in
      (of_ordered g r.0, member_in e U r.1)

  -- each is there once
  pub thinned_once : Once (thinned g U)
  thinned_once = kept_once g apart (filter (λ e. member e U) (ordered g))

  -- taken again, they are all kept
  pub thinned_whole : keep g apart (thinned g U) ≡ thinned g U
  thinned_whole = kept_whole g apart (filter (λ e. member e U) (ordered g))

  -- they weigh no more than U
  pub thinned_weight : total_weight g (thinned g U) ≤ total_weight g U
  unfolding total_weight
  thinned_weight = sum_within (weight_of g) thinned_once (λ e m. (thinned_of m).1)

  -- they join the ends of each edge of U
  thinned_joins : JoinsAll g (merge_all g apart (thinned g U)) U
  thinned_joins e m = go (either (ltb e (edge_count g)))
    where
      go : (ltb e (edge_count g) ≡ true) ⊎ (ltb e (edge_count g) ≡ false) → JoinsEnds g (merge_all g apart (thinned g U)) e
      go (inl t) = rw (kept_merges g apart (filter (λ x. member x U) (ordered g)))
          (merged_joins g apart (filter (λ x. member x U) (ordered g)) e (in_filter (λ x. member x U) (in_ordered g (ltb-true e (edge_count g) t)) (in_member m)))
      go (inr t) = ap (merge_all g apart (thinned g U)) (past_ends g (ltb-false e (edge_count g) t))

  -- they link all that U links
  pub thinned_links : {u v : ℕ} → Linked g U u v → Linked g (thinned g U) u v
  thinned_links {u} {v} l = merged_linked g (thinned g U) u v (linked_joined g U (merge_all g apart (thinned g U)) thinned_joins l)

-- E is what a tree or several may be made of that link what U links.
pub record Spans (g : Graph) (U E : List ℕ) : Type 0 where
  pub inside : (e : ℕ) → e ∈ E → e < edge_count g
  pub among : (e : ℕ) → e ∈ E → e ∈ U
  pub rising : Rising E
  pub no_loop : (e : ℕ) → e ∈ E → Linked g (without e E) (one_end g e) (other_end g e) → ⊥
  pub links : {u v : ℕ} → Linked g U u v → Linked g E u v
  pub weight : total_weight g E ≤ total_weight g U

-- the kept edges, by number, are such
pub thinned_spans : (g : Graph) (U : List ℕ) → Spans g U (rise (thinned g U))
thinned_spans g U = record {
  inside = λ e m. (thinned_of g U (of_rise (thinned g U) m)).0;
  among = λ e m. (thinned_of g U (of_rise (thinned g U) m)).1;
  rising = rising;
  no_loop = (kept_whole_is_loopless g once).0 (kept_whole_within g apart (thinned g U) (thinned_whole g U) once (λ e m. of_rise (thinned g U) m));
  links = λ l. linked_more (λ e m. in_rise m) (thinned_links g U l);
  weight = rw (rise_weight g (thinned g U)) (thinned_weight g U);
}
  where
    rising : Rising (rise (thinned g U))
    rising = rise_rising (thinned_once g U)

    once : Once (rise (thinned g U))
    once = rising_once rising
