-- A limit above the sum of all weights is accepted wherever "no cover" is not said. At that limit every edge is light; with roots no part reaches
-- the threshold, so that none is to be assigned; without roots each component needs one tree. So the trial there gives a cover.
-- Assumes nothing.
use Prim.Native.Nat.{ℕ, suc, ◌*◌, ◌/◌, ◌≤◌, ◌<◌}
use mathlib.Core.Path.{◌≡◌, refl, sym, ap, ◌∙◌}
use mathlib.Core.Bool.{true, false}
use mathlib.Core.List.Memᴰ
use mathlib.Core.List.{List, [], ◌∷◌, ◌++◌}
use native.Mathlib.Omega.{arith}
use native.Mathlib.Nat.{div-lt_iff_lt-mul}
use lib.ListN.{length, length-map}
use lib.Dec.{leb}
use borrow.Author.Tests.{le-leb, ltb-false, not-false}
use Rattle.lists.specs.Member.{◌∈◌}
use Rattle.lists.specs.Lists.{flat, times}
use Rattle.lists.specs.Count.{below}
use Rattle.lists.proofs.Bounds.{sum_each}
use Rattle.lists.proofs.Filters.{filter_all}
use Rattle.lists.proofs.Sums.{sum_within}
use Rattle.lists.proofs.SumsAlike.{sum_same, length_sum}
use Rattle.lists.proofs.Times.{times_append, times_once}
use Rattle.graph.specs.Graph.{Graph, edge_count, weight_of}
use Rattle.graph.specs.Valid.{Valid}
use Rattle.matching.specs.Assignable.{assignable}
use Rattle.rules.specs.Walk.{total_weight}
use Rattle.rules.specs.Cover.{Tree, tree_weight, Crews, rooted, unrooted, IsCover}
use Rattle.rules.specs.CoverBytes.{entry_edges}
use Rattle.rules.specs.Order.{ordered, light}
use Rattle.rules.specs.Labels.{Labels, apart, together, merge_all}
use Rattle.rules.specs.Forest.{forest, labels_at, unjoined, lowest}
use Rattle.rules.specs.Grow.{Rooted, branch_edges}
use Rattle.rules.specs.RootedTrial.{unjoined_at, rooted_parts, is_assignable}
use Rattle.rules.specs.UnrootedTrial.{components, needs, needed}
use Rattle.rules.specs.Search.{no_vertex, accepts, no_cover_exists}
use Rattle.rules.specs.Fit.{CrewsFit}
use Rattle.forest_laws.proofs.Forest.{forest_light}
use Rattle.forest_laws.proofs.Ordering.{in_ordered, of_ordered}
use Rattle.planner_laws.proofs.RootedPieces.{rooted_part, parts_once}
use Rattle.planner_laws.proofs.ComponentEdges.{component_roots, component_edge, component_once}
use Rattle.planner_laws.proofs.SomeChoices.{good_choices}
use Rattle.planner_laws.proofs.TrialBounds.{trial_trees}
use Rattle.planner_laws.proofs.BothKinds.{trial_bounds}
use Rattle.planner_laws.proofs.FirstBounds.{all_weights}

module _ (g : Graph) where
  -- A limit above the sum of all weights.
  abbrev pub above_sum : ℕ
  above_sum = suc (all_weights g)

  -- Every edge is within it;
  within_above : {e : ℕ} → e < edge_count g → weight_of g e ≤ above_sum
  unfolding total_weight
  within_above h = omega (arith, sum_each (weight_of g) (in_ordered g h))

  above_light : light g above_sum ≡ ordered g
  unfolding light
  above_light = filter_all (λ e. leb (weight_of g e) above_sum) (ordered g) (λ e m. le-leb (weight_of g e) above_sum (within_above (of_ordered g m)))

  above_labels : (P : Labels) → labels_at g P above_sum ≡ merge_all g P (ordered g)
  unfolding labels_at
  above_labels P = ap (merge_all g P) above_light

  -- and edges of a forest, each once, are below it together.
  once_below : (P : Labels) (limit : ℕ) (E : List ℕ) → ((e : ℕ) → times e E ≤ 1) → ((e : ℕ) → e ∈ E → e ∈ forest g P limit) → total_weight g E ≤ all_weights g
  unfolding total_weight
  once_below P limit E once known = sum_within (weight_of g) (times_once E once) (λ e m. in_ordered g (forest_light g P limit e (known e m)).0)

  -- ROOTED

  module _ (roots : List ℕ) where
    -- There are no parts,
    no_parts : (parts : List Tree) → rooted_parts g roots above_sum ≡ parts → parts ≡ []
    unfolding tree_weight entry_edges flat
    no_parts [] q = refl
    no_parts (p ∷ ps) q =
        let m : p ∈ rooted_parts g roots above_sum = rw q (Memᴰ.head refl) in
        let is = rooted_part g roots above_sum m in
        let once : (e : ℕ) → times e p.edges ≤ 1 =
        λ e. let all : times e (p.edges ++ entry_edges ps) ≤ 1 = rw q at (parts_once g roots above_sum e) in omega (arith, all, times_append e p.edges (entry_edges ps)) in
        absurd (omega (arith, is.heavy, once_below (together roots) above_sum p.edges once (λ e n. is.in_forest n)))

    -- so that none is to be assigned.
    above_assignable : is_assignable g roots above_sum ≡ true
    unfolding is_assignable assignable below Rattle.lists.specs.Count.from
    above_assignable = let q : rooted_parts g roots above_sum ≡ [] = no_parts (rooted_parts g roots above_sum) refl in rw q refl

  -- UNROOTED

  -- Each component needs one tree,
  above_needs : {t : Rooted} → t ∈ components g above_sum → needs g above_sum t ≡ 1
  unfolding needs
  above_needs {t} m =
      let w : ℕ = total_weight g (branch_edges t.branches) in
      let most : w ≤ all_weights g = once_below apart above_sum (branch_edges t.branches) (component_once g above_sum m) (λ e n. component_edge g above_sum m n) in
      let positive : 0 < 2 * above_sum = omega arith in
      let few : w / (2 * above_sum) < 1 = (div-lt_iff_lt-mul positive).1 (omega arith) in
      omega arith

  -- all together as many as there are components.
  above_needed : needed g above_sum ≡ length (lowest g (merge_all g apart (ordered g)))
  unfolding needed
  above_needed =
      sum_same (needs g above_sum) (λ _. 1) (components g above_sum) (λ t m. above_needs m)
      ∙ sym (length_sum (components g above_sum))
      ∙ sym (length-map (components g above_sum) (λ (t : Rooted). t.root))
      ∙ ap length (component_roots g above_sum)
      ∙ ap (λ P. length (lowest g P)) (above_labels apart)

  -- BOTH KINDS

  -- Where "no cover" is not said, the limit is accepted.
  pub above_accepted : (crews : Crews) → no_cover_exists g crews ≡ false → accepts g crews above_sum ≡ true
  unfolding no_cover_exists accepts unjoined_at
  above_accepted (rooted roots) t =
      rw (above_labels (together roots), not-false (no_vertex (unjoined g roots (merge_all g (together roots) (ordered g)))) t, above_assignable roots) refl
  above_accepted (unrooted k) t = le-leb (needed g above_sum) k (omega (arith, above_needed, ltb-false k (length (lowest g (merge_all g apart (ordered g)))) t))

-- So there is a cover, the trial's own.
pub some_cover : {g : Graph} → Valid g → (crews : Crews) → CrewsFit g crews → no_cover_exists g crews ≡ false → (trees : List Tree) × IsCover g crews trees
some_cover {g} valid crews fit t =
    let (c, good) = good_choices valid crews fit (above_sum g) in
    (trial_trees g crews (above_sum g) c, ((trial_bounds valid crews fit).accepted_covers (above_sum g) c (above_accepted g crews t) good).cover)
