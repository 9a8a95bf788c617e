-- A cover with every tree within the limit has in each component as many trees as the component needs. Let K trees start in it. Each end of
-- its forest edges is covered by one of them, so after merging along their edges fewer than K forest edges are still kept; the trees' edges
-- and the kept ones together could replace the component's forest edges, which therefore weigh at most K B + (K - 1) B.
-- Assumes nothing.
use Prim.Native.Nat.{ℕ, zero, suc, ◌+◌, ◌*◌, ◌/◌, ◌≤◌, ◌<◌}
use mathlib.Core.Path.{refl, sym, ◌∙◌}
use mathlib.Core.Bool.{not}
use mathlib.Core.List.Memᴰ
use mathlib.Core.List.{List, ◌++◌, map}
use mathlib.Core.Logic.{◌⊎◌, inl, inr}
use native.Mathlib.Omega.{arith}
use native.Mathlib.Nat.{suc-mul, mul_left_comm, mul-le-mul_right, div-lt_iff_lt-mul, div-zero}
use lib.ListN.{length, length-map}
use borrow.Author.Tests.{eq-eqb}
use Rattle.lists.specs.Lists.{filter}
use Rattle.lists.specs.Member.{◌∈◌}
use Rattle.lists.proofs.Member.{in_filter, of_filter, in_map}
use Rattle.lists.proofs.Bounds.{sum_each, sum_most}
use Rattle.lists.proofs.SumsAlike.{sum_flat_map, length_removed}
use Rattle.graph.specs.Graph.{Graph, edge_count, one_end, other_end, weight_of}
use Rattle.rules.specs.Walk.{total_weight}
use Rattle.rules.specs.Cover.{Tree, Covers, tree_weight, AllCovered}
use Rattle.rules.specs.Labels.{Labels, apart, joined, merge_all}
use Rattle.rules.specs.Order.{light}
use Rattle.rules.specs.Forest.{keep, forest, labels_at}
use Rattle.rules.specs.CoverBytes.{entry_edges}
use Rattle.rules.proofs.Linked.{linked_more, linked_ends}
use Rattle.forest_laws.proofs.Merging.{JoinsAll, merged_append, merged_joins, merged_monotone}
use Rattle.forest_laws.proofs.Walks.{linked_merged}
use Rattle.forest_laws.proofs.Keeping.{kept_subset, kept_merges}
use Rattle.forest_laws.proofs.FewKept.{JoinedToOne, EndsJoinedToOne, few_kept}
use Rattle.forest_laws.proofs.Limit.{in_light, of_light}
use Rattle.forest_laws.proofs.Forest.{Within, forest_light, forest_replaced, labels_are_linked}
use Rattle.distance_laws.proofs.Covered.{covered_linked}
use Rattle.split_laws.proofs.Exact.{in_part_edges, of_part_edges}
use Rattle.split_laws.proofs.Weights.{weight_append}
use Rattle.split_laws.proofs.Whole.{EndsInside}
use Rattle.planner_laws.proofs.ComponentEdges.{Alike, label_edges, of_label_edges}
use Rattle.planner_laws.proofs.ComponentNeeds.{needs_at}

-- Each tree of the list weighs at most the limit.
abbrev pub EachWithin : Graph → ℕ → List Tree → Type 0
EachWithin g limit trees = (t : Tree) → t ∈ trees → tree_weight g t ≤ limit

-- The trees that start at a vertex with the label of r.
abbrev pub trees_at : Graph → ℕ → List Tree → ℕ → List Tree
trees_at g limit trees r = filter (λ (t : Tree). joined (labels_at g apart limit) r t.start) trees

-- A weight of at most K B + y B, with y below K, asks for at most K.
few_needs : (w K y B : ℕ) → y < K → w ≤ K * B + y * B → 1 + w / (2 * B) ≤ K
few_needs w K y zero h l = omega (arith, div-zero w)
few_needs w (suc k) y (suc b) h l =
    let above : 0 < 2 * suc b = omega arith in
    let most : y ≤ k = omega arith in
    let below : w < suc k * (2 * suc b) = omega (arith, mul-le-mul_right (suc b) most, suc-mul k (suc b), suc-mul k (2 * suc b), mul_left_comm k 2 (suc b)) in
    omega (arith, (div-lt_iff_lt-mul above).1 below)
few_needs w zero y (suc b) h l = omega arith

module _ {g : Graph} (ends : EndsInside g) (limit : ℕ) {trees : List Tree} (cover : AllCovered g trees) (within : EachWithin g limit trees) where
  -- The edges of the trees are light,
  tree_edge_light : {t : Tree} {e : ℕ} → t ∈ trees → e ∈ t.edges → e ∈ light g limit
  unfolding tree_weight total_weight
  tree_edge_light {t} {e} m n = in_light g limit ((cover.are_trees t m).edges_inside e n) (omega (arith, sum_each (weight_of g) n, within t m))

  -- so that a tree covers only vertices with its start's label.
  pub covered_alike : {t : Tree} {v : ℕ} → t ∈ trees → Covers g t v → Alike g limit t.start v
  unfolding labels_at
  covered_alike {t} m c = linked_merged g (light g limit) apart (linked_more (λ e n. tree_edge_light m n) (covered_linked (cover.are_trees t m) c))

  module _ (r : ℕ) (inside : r < g.vertices) where
    -- The trees in the component, their edges, and the labels that these make.
    here : List Tree
    here = trees_at g limit trees r

    merged : Labels
    merged = merge_all g apart (entry_edges here)

    -- Every vertex with the label of r is covered by one of them,
    covered_here : {v : ℕ} → v < g.vertices → Alike g limit r v → (t : Tree) × (t ∈ here) × Covers g t v
    unfolding here joined
    covered_here {v} h q =
        let (t, m, c) = cover.covered v h in
        (t, in_filter (λ (u : Tree). joined (labels_at g apart limit) r u.start) m (eq-eqb _ _ (q ∙ sym (covered_alike m c))), c)

    of_here : {t : Tree} → t ∈ here → t ∈ trees
    unfolding here
    of_here m = (of_filter (λ (u : Tree). joined (labels_at g apart limit) r u.start) trees m).0

    -- and so joined to one of their starts.
    joined_here : {v : ℕ} → v < g.vertices → Alike g limit r v → JoinedToOne merged (map (λ (t : Tree). t.start) here) v
    unfolding merged
    joined_here {v} h q =
        let (t, m, c) = covered_here h q in
        let linked = covered_linked (cover.are_trees t (of_here m)) c in
        (t.start, in_map (λ (u : Tree). u.start) m, linked_merged g (entry_edges here) apart (linked_more (λ e n. in_part_edges m n) linked))

    -- Both ends of the component's forest edges have the label.
    ends_here : EndsJoinedToOne g merged (map (λ (t : Tree). t.start) here) (label_edges g limit r)
    ends_here e m =
        let (n, q) = of_label_edges g limit r m in
        let (one, other) = ends e (forest_light g apart limit e n).0 in
        (joined_here one q, joined_here other (q ∙ (labels_are_linked g limit (one_end g e) (other_end g e)).1 (linked_ends n)))

    -- So fewer of the component's forest edges are kept than there are trees.
    still_kept : List ℕ
    still_kept = keep g merged (label_edges g limit r)

    kept_below : length still_kept < length here
    unfolding still_kept
    kept_below =
        let (t, m, c) = covered_here inside refl in
        let some : 1 ≤ length (map (λ (u : Tree). u.start) here) = omega (arith, length_removed m, length-map here (λ (u : Tree). u.start)) in
        omega (arith, few_kept g merged (label_edges g limit r) (map (λ (u : Tree). u.start) here) some ends_here, length-map here (λ (u : Tree). u.start))

    -- The trees' edges and these are light,
    replacing : List ℕ
    replacing = entry_edges here ++ still_kept

    replacing_within : Within g limit replacing
    unfolding replacing still_kept
    replacing_within e m = go (Memᴰ.append_cases (entry_edges here) m)
      where
        go : (e ∈ entry_edges here) ⊎ (e ∈ still_kept) → (e < edge_count g) × (weight_of g e ≤ limit)
        go (inl n) = let (t, i, k) = of_part_edges here n in of_light g limit (tree_edge_light (of_here i) k)
        go (inr n) = forest_light g apart limit e (of_label_edges g limit r (kept_subset g merged (label_edges g limit r) n)).0

    -- join the ends of the component's forest edges,
    replacing_joins : JoinsAll g (merge_all g apart replacing) (label_edges g limit r)
    unfolding replacing still_kept merged
    replacing_joins e m =
        rw (merged_append g apart (entry_edges here) still_kept, kept_merges g merged (label_edges g limit r)) (merged_joins g merged (label_edges g limit r) e m)

    -- and weigh at most limit for each tree and each kept edge.
    replacing_weight : total_weight g replacing ≤ length here * limit + length still_kept * limit
    unfolding replacing total_weight tree_weight entry_edges
    replacing_weight =
        omega (
          arith,
          weight_append g (entry_edges here) still_kept,
          sum_flat_map (weight_of g) (λ (t : Tree). t.edges) here,
          sum_most (tree_weight g) limit here (λ t m. within t (of_here m)),
          sum_most (weight_of g) limit still_kept (λ e m. (replacing_within e (Memᴰ.append_right (entry_edges here) m)).1),
        )

    -- So they could replace the component's forest edges, which weigh no more.
    replaced : total_weight g (label_edges g limit r) ≤ total_weight g replacing
    replaced = forest_replaced g apart limit (λ e. joined (labels_at g apart limit) r (one_end g e)) replacing replacing_within
        (λ e m. merged_monotone g apart apart replacing (others ++ replacing) (λ u v p. p) (λ f n. Memᴰ.append_right others n) (one_end g e) (other_end g e) (replacing_joins e m))
      where
        others : List ℕ
        others = filter (λ e. not (joined (labels_at g apart limit) r (one_end g e))) (forest g apart limit)

    -- So the component needs at most as many trees as start in it.
    pub component_share : needs_at g limit r ≤ length (trees_at g limit trees r)
    unfolding here
    component_share = few_needs (total_weight g (label_edges g limit r)) (length here) (length still_kept) limit kept_below (omega (arith, replaced, replacing_weight))
