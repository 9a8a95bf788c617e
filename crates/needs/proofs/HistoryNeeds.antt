-- The history tells what the components need: each kept edge leaves one label fewer that is its own, and the weights of the components sum up to what
-- the trees that are there do.
-- Assumes nothing.
use Prim.Native.Nat.{ℕ, zero, suc, ◌+◌, ◌-◌, ◌*◌, ◌/◌, ◌≤◌, ◌<◌}
use mathlib.Core.Path.{◌≡◌, refl, sym, ap, ◌∙◌}
use mathlib.Core.Bool.{Bool, true, false, cond}
use mathlib.Core.List.{List}
use native.Mathlib.Omega.{arith}
use lib.ListN.{length, get_or, take}
use lib.Seq.{take_all}
use borrow.Author.Tests.{eq-eqb}
use Rattle.lists.specs.Count.{count, below}
use Rattle.lists.specs.Lists.{sum_of}
use Rattle.lists.proofs.Pigeonhole.{count_same, count_all}
use Rattle.lists.proofs.SumsAlike.{sum_same, sum_plus, length_sum}
use Rattle.graph.specs.Graph.{Graph, one_end, other_end}
use Rattle.graph.specs.Valid.{Valid}
use Rattle.graph.proofs.Ranges.{one_end_below, other_end_below}
use Rattle.rules.specs.Labels.{Labels, apart, merge_edge, merge_all}
use Rattle.rules.specs.Forest.{forest, lowest}
use Rattle.rules.specs.UnrootedTrial.{needed}
use Rattle.forest_laws.proofs.Merging.{JoinsEnds}
use Rattle.forest_laws.proofs.VertexLabels.{VertexLabels, own, merge_vertices, apart_vertices, merged_vertices}
use Rattle.forest_laws.proofs.Loops.{AllKept, all_none, all_next}
use Rattle.planner_laws.proofs.OwnLabels.{sum_by_own, needed_by_own}
use Rattle.needs.specs.History.{value_at, needed_by}
use Rattle.needs.proofs.ComponentWeights.{label_weight, components_sum}
use Rattle.needs.proofs.SumsBelow.{sum_below_count, sum_filter}
use Rattle.needs.proofs.MergedWeights.{own_fewer}

module _ {g : Graph} where
  -- The ends of each kept edge are apart when its turn comes.
  pub ends_apart : {label : Labels} {E : List ℕ} → AllKept g label E → (j : ℕ) → j < length E → JoinsEnds g (merge_all g label (take j E)) (get_or E j 0) → ⊥
  unfolding merge_all
  ends_apart all_none j h = absurd (omega arith)
  ends_apart (all_next p k) zero h = p
  ends_apart (all_next p k) (suc j) h = ends_apart k j (omega arith)

  module _ (valid : Valid g) where
    -- Each leaves one label fewer that is its own.
    own_left : {label : Labels} {E : List ℕ} → AllKept g label E → VertexLabels g.vertices label → (j : ℕ) → j ≤ length E
        → count g.vertices (own (merge_all g label (take j E))) + j ≡ count g.vertices (own label)
    unfolding merge_all merge_edge
    own_left k s zero h = omega arith
    own_left all_none s (suc j) h = absurd (omega arith)
    own_left {label = label} (all_next {e = e} p k) s (suc j) h =
        omega (
          arith,
          own_left {label = merge_edge g label e} k (merge_vertices s (one_end g e) (other_end g e) (one_end_below valid e)) j (omega arith),
          own_fewer g label s e p (one_end_below valid e) (other_end_below valid e),
        )

    own_apart : count g.vertices (own apart) ≡ g.vertices
    unfolding own apart
    own_apart = count_same g.vertices (own apart) (λ _. true) (λ v l. eq-eqb v v refl) ∙ count_all g.vertices

    -- So all kept edges leave so many components, each with its lowest vertex.
    pub components_left : {kept : List ℕ} → AllKept g apart kept → length (lowest g (merge_all g apart kept)) ≡ g.vertices - length kept
    components_left {kept} k =
        let label = merge_all g apart kept in
        let all : take (length kept) kept ≡ kept = take_all (length kept) kept (omega arith) in
        omega (
          arith,
          length_sum (lowest g label),
          sum_by_own g label (merged_vertices valid (apart_vertices g.vertices) kept) (λ _. 1),
          sum_filter (own label) (λ _. 1) (below g.vertices),
          sum_below_count g.vertices (own label),
          ap (λ l. count g.vertices (own (merge_all g apart l))) all,
          own_left k (apart_vertices g.vertices) (length kept) (omega arith),
          own_apart,
        )

    -- What the components need, by their number and their weights.
    needed_by_weights : (limit : ℕ) (E : List ℕ) → E ≡ forest g apart limit
        → needed g limit ≡ count g.vertices (own (merge_all g apart E)) + components_sum g (merge_all g apart E) E (λ w. w / (2 * limit))
    needed_by_weights limit E are =
        let label = merge_all g apart E in
        let more : ℕ → ℕ = λ v. label_weight g label E v / (2 * limit) in
        needed_by_own valid limit E are
        ∙ sum_filter (own label) (λ v. 1 + more v) (below g.vertices)
        ∙ sum_same (λ v. cond (own label v) (1 + more v) 0) (λ v. cond (own label v) 1 0 + cond (own label v) (more v) 0) (below g.vertices)
        (λ v m. both (own label v) (more v))
        ∙ sum_plus (λ v. cond (own label v) 1 0) (λ v. cond (own label v) (more v) 0) (below g.vertices)
        ∙ ap (λ k. k + components_sum g label E (λ w. w / (2 * limit))) (sym (sum_below_count g.vertices (own label)))
      where
        both : (b : Bool) (x : ℕ) → cond b (1 + x) 0 ≡ cond b 1 0 + cond b x 0
        both true x = refl
        both false x = omega arith

    -- So does the history, whose sums are those of the components' weights.
    pub history_needs : {kept : List ℕ} (total until : List ℕ) → AllKept g apart kept → (limit light : ℕ) → light ≤ length kept → take light kept ≡ forest g apart limit
        → sum_of (value_at (λ w. w / (2 * limit)) (λ i. get_or total i 0) (λ i. get_or until i 0) light) (below (light + 1))
        ≡ components_sum g (merge_all g apart (take light kept)) (take light kept) (λ w. w / (2 * limit))
        → needed_by g.vertices total until light limit ≡ needed g limit
    history_needs {kept} total until k limit light h are sums =
        omega (arith, sums, own_left k (apart_vertices g.vertices) light h, own_apart, needed_by_weights limit (take light kept) are)
