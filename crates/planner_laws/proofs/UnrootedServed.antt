-- Unrooted: each edge of the forest stands in exactly one tree of the answer, and so does each leaf edge within the limit. A leaf whose number is
-- above that of its neighbour starts no tree where its edge is within the limit, and is a component alone where it is not.
-- Assumes nothing.
use Prim.Native.Nat.{ℕ, ◌*◌, ◌≤◌, ◌<◌}
use mathlib.Core.Path.{◌≡◌, refl, sym, ◌∙◌}
use mathlib.Core.List.Memᴰ
use mathlib.Core.List.{List, [], ◌∷◌, ◌++◌, map}
use mathlib.Core.Logic.{◌⊎◌, inl, inr}
use native.Mathlib.Omega.{arith}
use Rattle.lists.specs.Lists.{flat, sum_of, times}
use Rattle.lists.specs.Member.{◌∈◌}
use Rattle.lists.specs.Sort.{rise}
use Rattle.lists.proofs.Sorting.{sum_sort}
use Rattle.lists.proofs.SumsAlike.{sum_same, sum_of_map, sum_flat_map}
use Rattle.lists.proofs.Sums.{sum_append}
use Rattle.lists.proofs.Times.{times_flat, times_none, times_append, times_rise, in_times, once_times}
use Rattle.graph.specs.Graph.{Graph, weight_of, one_end, other_end}
use Rattle.rules.specs.Walk.{Joins, onward, back}
use Rattle.rules.specs.Cover.{Tree}
use Rattle.rules.specs.CoverBytes.{entry_edges}
use Rattle.rules.specs.Labels.{apart}
use Rattle.rules.specs.Order.{light}
use Rattle.rules.specs.Forest.{forest, labels_at, lowest}
use Rattle.rules.specs.Grow.{Rooted, branch_edges}
use Rattle.rules.specs.Split.{split}
use Rattle.rules.specs.UnrootedTrial.{components, leftovers, from_lowest, component_trees, starts_before, unrooted_trees}
use Rattle.rules.proofs.Leaf.{Leaf, AllInside, leaf_inside, walk_to_leaf, covers_leaf, covers_leaf_by, leaf_covers_stem}
use Rattle.rules.proofs.EntryTimes.{entry_times}
use Rattle.forest_laws.proofs.Forest.{forest_light, forest_once}
use Rattle.forest_laws.proofs.Limit.{in_light}
use Rattle.forest_laws.proofs.Merging.{merged_joins}
use Rattle.forest_laws.proofs.LeafKept.{leaf_kept_apart}
use Rattle.split_laws.proofs.Trees.{all_edges}
use Rattle.split_laws.proofs.SplitTree.{tree_exact}
use Rattle.split_laws.proofs.Lowest.{lowest_first, lowest_reach}
use Rattle.split_laws.proofs.Whole.{EndsInside}
use Rattle.planner_laws.proofs.ComponentEdges.{component_root, components_edges}
use Rattle.planner_laws.proofs.ComponentTrees.{component_parts, component_leftover, part_or_leftover, component_split, part_known, leftover_known}
use Rattle.planner_laws.proofs.UnrootedNumber.{of_unrooted}
use Rattle.planner_laws.proofs.UnrootedStart.{lowest_covered, lowest_most}

-- EACH EDGE ONCE

-- The edges of the leftover, if it stands, are those that are left.
leftovers_times : (e root : ℕ) (parts : List Tree) (left : List ℕ) → times e (entry_edges (leftovers root parts left)) ≡ times e left
unfolding leftovers entry_edges flat
leftovers_times e root [] left = omega (arith, times_append e (rise left) [], times_none e, times_rise e left)
leftovers_times e root (p ∷ ps) [] = refl
leftovers_times e root (p ∷ ps) (x ∷ left) = omega (arith, times_append e (rise (x ∷ left)) [], times_none e, times_rise e (x ∷ left))

module _ (g : Graph) (limit : ℕ) where
  -- The trees of a component hold each edge as often as the component does,
  component_times : (t : Rooted) (e : ℕ) → times e (entry_edges (component_trees g limit t)) ≡ times e (branch_edges t.branches)
  unfolding component_trees from_lowest
  component_times t e =
      let parts = component_parts g limit t in
      let rest = leftovers t.root parts (split g (2 * limit) t).left in
      let held : Tree → ℕ = λ u. times e u.edges in
      omega (
        arith,
        entry_times e (map (from_lowest g) (parts ++ rest)),
        sum_of_map held (from_lowest g) (parts ++ rest),
        sum_append held parts rest,
        entry_times e parts,
        entry_times e rest,
        leftovers_times e t.root parts (split g (2 * limit) t).left,
        tree_exact g (2 * limit) t e,
      )

  -- all trees of the answer as often as all components do,
  unrooted_times : (e : ℕ) → times e (entry_edges (unrooted_trees g limit)) ≡ times e (all_edges (components g limit))
  unfolding unrooted_trees all_edges
  unrooted_times e =
      let held : Tree → ℕ = λ u. times e u.edges in
      let all : List Tree = flat (map (component_trees g limit) (components g limit)) in
      entry_times e (unrooted_trees g limit)
      ∙ sum_sort starts_before held all
      ∙ sum_flat_map held (component_trees g limit) (components g limit)
      ∙ sum_same (λ t. sum_of held (component_trees g limit t)) (λ t. times e (branch_edges t.branches)) (components g limit) (λ t m. sym (entry_times e (component_trees g limit t)) ∙ component_times t e)
      ∙ sym (times_flat e (λ (t : Rooted). branch_edges t.branches) (components g limit))

  -- and so as often as the forest does:
  pub unrooted_exact : EndsInside g → (e : ℕ) → times e (entry_edges (unrooted_trees g limit)) ≡ times e (forest g apart limit)
  unrooted_exact ends e = unrooted_times e ∙ components_edges g limit ends e ∙ times_rise e (forest g apart limit)

  -- each edge of the forest once.
  pub unrooted_edge_once : EndsInside g → {e : ℕ} → e ∈ forest g apart limit → times e (entry_edges (unrooted_trees g limit)) ≡ 1
  unrooted_edge_once ends {e} m = omega (arith, unrooted_exact ends e, in_times m, once_times (forest_once g apart limit) e)

-- THE LEAF EDGE

module _ {g : Graph} {e s c : ℕ} (leaf : Leaf g e s c) where
  -- A leaf edge within the limit stands in exactly one tree of the answer.
  pub unrooted_served_once : EndsInside g → {limit : ℕ} → weight_of g e ≤ limit → times e (entry_edges (unrooted_trees g limit)) ≡ 1
  unrooted_served_once ends {limit} h = unrooted_edge_once g limit ends (leaf_kept_apart leaf h)

  -- A leaf that is the lowest vertex of no component has its edge within the limit,
  pub not_lowest_within : EndsInside g → (limit : ℕ) → (c ∈ lowest g (labels_at g apart limit) → ⊥) → weight_of g e ≤ limit
  not_lowest_within ends limit out =
      let (r, m, l) = lowest_reach g limit c (leaf_inside leaf ends) in
      let there : e ∈ l.path = walk_to_leaf leaf l.leads (λ d n. (forest_light g apart limit d (l.along d n)).0) (λ q. out (Memᴰ.cast (sym q) m)) in
      (forest_light g apart limit e (l.along e there)).1

  module _ (above : s < c) {limit : ℕ} (within : weight_of g e ≤ limit) where
    -- The other way round, where its number is above that of its neighbour.
    pub within_not_lowest : c ∈ lowest g (labels_at g apart limit) → ⊥
    unfolding labels_at
    within_not_lowest m = lowest_first g (labels_at g apart limit) m above (go leaf.joins (merged_joins g apart (light g limit) e (in_light g limit leaf.inside within)))
      where
        go : Joins g e s c → labels_at g apart limit (one_end g e) ≡ labels_at g apart limit (other_end g e) → labels_at g apart limit s ≡ labels_at g apart limit c
        go (onward a b) q = rw (a, b) q
        go (back a b) q = rw (a, b) (sym q)

    -- Then a piece that has its edge, started anew, does not start there;
    with_edge_elsewhere : (p : Tree) → e ∈ p.edges → (from_lowest g p).start ≡ c → ⊥
    with_edge_elsewhere p m q = omega (arith, lowest_most g p (leaf_covers_stem leaf m))

    module _ {t : Rooted} (m : t ∈ components g limit) where
      -- a part that covers the leaf has its edge,
      part_elsewhere : {p : Tree} → p ∈ component_parts g limit t → (from_lowest g p).start ≡ c → ⊥
      part_elsewhere {p} n q =
          let inside : AllInside g p.edges = λ f i. (forest_light g apart limit f (part_known g limit m n f i)).0 in
          with_edge_elsewhere p (covers_leaf_by leaf inside ((component_split g limit m).connected n).at_edge (rw q at (lowest_covered g p))) q

      -- and what is left has it, or its root is the leaf.
      leftover_elsewhere : (from_lowest g (component_leftover g limit t)).start ≡ c → ⊥
      leftover_elsewhere q =
          let inside : AllInside g (component_leftover g limit t).edges = λ f i. (forest_light g apart limit f (leftover_known g limit m f i)).0 in
          go (covers_leaf leaf {t = component_leftover g limit t} inside (rw q at (lowest_covered g (component_leftover g limit t))))
        where
          go : (t.root ≡ c) ⊎ (e ∈ rise (split g (2 * limit) t).left) → ⊥
          go (inl r) = within_not_lowest (Memᴰ.cast (sym r) (component_root g limit m))
          go (inr n) = with_edge_elsewhere (component_leftover g limit t) n q

    -- So no tree of the answer starts at the leaf.
    pub leaf_starts_none : {u : Tree} → u ∈ unrooted_trees g limit → u.start ≡ c → ⊥
    leaf_starts_none m q =
        let (t, i, n) = of_unrooted g limit m in
        let (p, is, piece) = part_or_leftover g limit t n in
        go i piece (rw is at q)
      where
        go : {t : Rooted} {p : Tree} → t ∈ components g limit → (p ∈ component_parts g limit t) ⊎ (p ≡ component_leftover g limit t) → (from_lowest g p).start ≡ c → ⊥
        go i (inl n) r = part_elsewhere i n r
        go i (inr z) r = leftover_elsewhere i (rw z at r)
