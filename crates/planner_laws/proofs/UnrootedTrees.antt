-- The trees of an unrooted answer are trees, and weigh at most 4 B - 2. A part or leftover is made of the forest's edges, rising and connected,
-- so it is a tree. With threshold 2 B a part weighs at most 4 B - 2 and a leftover at most 2 B - 1; at limit 0 no edge weighs anything.
-- Assumes nothing.
use Prim.Native.Nat.{ℕ, ◌*◌, ◌-◌, ◌≤◌}
use mathlib.Core.Path.{◌≡◌}
use mathlib.Core.List.{List}
use mathlib.Core.Logic.{◌⊎◌, inl, inr}
use native.Mathlib.Omega.{arith}
use Rattle.lists.specs.Lists.{times}
use Rattle.lists.specs.Member.{◌∈◌}
use Rattle.lists.specs.InOrder.{Rising}
use Rattle.lists.specs.Sort.{rise}
use Rattle.lists.proofs.Below.{equal_or_not}
use Rattle.lists.proofs.Bounds.{sum_each}
use Rattle.lists.proofs.Without.{without_within}
use Rattle.lists.proofs.SumsAlike.{sum_zero}
use Rattle.lists.proofs.Times.{times_rise}
use Rattle.graph.specs.Graph.{Graph, weight_of}
use Rattle.rules.specs.Walk.{total_weight}
use Rattle.rules.specs.Cover.{Tree, IsTree, tree_weight}
use Rattle.rules.specs.Labels.{apart}
use Rattle.rules.specs.Forest.{forest}
use Rattle.rules.specs.Grow.{Rooted}
use Rattle.rules.specs.Split.{split}
use Rattle.rules.specs.UnrootedTrial.{components, from_lowest, unrooted_trees}
use Rattle.rules.proofs.Linked.{linked_more}
use Rattle.rules.proofs.Joined.{JoinedTo}
use Rattle.rules.proofs.EntryTimes.{entry_times}
use Rattle.forest_laws.proofs.Forest.{forest_light, forest_no_loop}
use Rattle.forest_laws.proofs.Thinning.{rise_weight}
use Rattle.split_laws.proofs.Connected.{rise_joined}
use Rattle.split_laws.proofs.PartsRise.{part_rising, sorted_rising}
use Rattle.split_laws.proofs.Whole.{EndsInside}
use Rattle.planner_laws.proofs.ComponentEdges.{component_edge, component_once}
use Rattle.planner_laws.proofs.ComponentTrees.{component_parts, component_leftover, part_or_leftover, component_split, part_known, leftover_known}
use Rattle.planner_laws.proofs.UnrootedNumber.{of_unrooted}
use Rattle.planner_laws.proofs.UnrootedStart.{Hung, lowest_is_tree, unrooted_start_inside}

-- Edges of the forest that rise and are joined to a vertex are a tree from there.
forest_tree : (g : Graph) (limit : ℕ) (u : Tree) → ((e : ℕ) → e ∈ u.edges → e ∈ forest g apart limit) → Rising u.edges → JoinedTo g u.start u.edges → Hung g u
forest_tree g limit u known rises hangs = record {
  edges_inside = λ e m. (forest_light g apart limit e (known e m)).0;
  rising = rises;
  joined = hangs;
  no_loop = λ e m l. forest_no_loop g apart limit (known e m) (linked_more (without_within e known) l);
}

-- At limit 0 the forest's edges weigh nothing.
weightless : (g : Graph) (limit : ℕ) → limit ≡ 0 → (E : List ℕ) → ((e : ℕ) → e ∈ E → e ∈ forest g apart limit) → total_weight g E ≡ 0
unfolding total_weight
weightless g limit q E known = sum_zero (weight_of g) E (λ e m. omega (arith, (forest_light g apart limit e (known e m)).1))

module _ (g : Graph) (limit : ℕ) {t : Rooted} (m : t ∈ components g limit) where
  -- No edge stands twice in a part or in what is left.
  part_once : {p : Tree} → p ∈ component_parts g limit t → (e : ℕ) → times e p.edges ≤ 1
  part_once n e =
      let parts : List Tree = component_parts g limit t in
      omega (arith, sum_each (λ (u : Tree). times e u.edges) n, entry_times e parts, (component_split g limit m).exact e, component_once g limit m e)

  leftover_once : (e : ℕ) → times e (rise (split g (2 * limit) t).left) ≤ 1
  leftover_once e = omega (arith, times_rise e (split g (2 * limit) t).left, (component_split g limit m).exact e, component_once g limit m e)

  -- A part is a tree, wherever it may start,
  pub part_hung : {p : Tree} → p ∈ component_parts g limit t → Hung g p
  part_hung {p} n = forest_tree g limit p (part_known g limit m n) (part_rising g (2 * limit) t n (part_once n)) ((component_split g limit m).connected n).joined

  -- so is what is left.
  pub leftover_hung : Hung g (component_leftover g limit t)
  leftover_hung =
      forest_tree g limit (component_leftover g limit t) (leftover_known g limit m) (sorted_rising (split g (2 * limit) t).left leftover_once) (rise_joined (component_split g limit m).left_joined)

  -- A part weighs at most 4 B - 2,
  part_bound : {p : Tree} → p ∈ component_parts g limit t → tree_weight g p ≤ 4 * limit - 2
  unfolding tree_weight
  part_bound {p} n = go (equal_or_not limit 0)
    where
      go : (limit ≡ 0) ⊎ (limit ≡ 0 → ⊥) → total_weight g p.edges ≤ 4 * limit - 2
      go (inl q) = omega (arith, weightless g limit q p.edges (part_known g limit m n))
      go (inr d) =
          let above : 1 ≤ 2 * limit = omega arith in
          omega (arith, (component_split g limit m).sharp above (λ e i. omega (arith, (forest_light g apart limit e (component_edge g limit m i)).1)) n)

  -- and so does what is left.
  leftover_bound : tree_weight g (component_leftover g limit t) ≤ 4 * limit - 2
  unfolding tree_weight
  leftover_bound = go (equal_or_not limit 0)
    where
      go : (limit ≡ 0) ⊎ (limit ≡ 0 → ⊥) → total_weight g (rise (split g (2 * limit) t).left) ≤ 4 * limit - 2
      go (inl q) = omega (arith, weightless g limit q (rise (split g (2 * limit) t).left) (leftover_known g limit m))
      go (inr d) =
          let above : 1 ≤ 2 * limit = omega arith in
          omega (
            arith,
            rise_weight g (split g (2 * limit) t).left,
            (component_split g limit m).left_below above (λ e i. omega (arith, (forest_light g apart limit e (component_edge g limit m i)).1)),
          )

module _ (g : Graph) (limit : ℕ) {u : Tree} (m : u ∈ unrooted_trees g limit) where
  -- The trees of the answer are trees,
  pub unrooted_is_tree : EndsInside g → IsTree g u
  unrooted_is_tree ends =
      let (t, i, n) = of_unrooted g limit m in
      let (p, q, c) = part_or_leftover g limit t n in
      let inside = unrooted_start_inside g limit ends m in
      rw q (lowest_is_tree (go i c) (rw q at inside))
    where
      go : {t : Rooted} {p : Tree} → t ∈ components g limit → (p ∈ component_parts g limit t) ⊎ (p ≡ component_leftover g limit t) → Hung g p
      go i (inl n) = part_hung g limit i n
      go i (inr q) = rw q (leftover_hung g limit i)

  -- and weigh at most 4 B - 2.
  pub unrooted_weight : tree_weight g u ≤ 4 * limit - 2
  unfolding tree_weight from_lowest
  unrooted_weight = let (t, i, n) = of_unrooted g limit m in let (p, q, c) = part_or_leftover g limit t n in rw q (go i c)
    where
      go : {t : Rooted} {p : Tree} → t ∈ components g limit → (p ∈ component_parts g limit t) ⊎ (p ≡ component_leftover g limit t) → total_weight g p.edges ≤ 4 * limit - 2
      go i (inl n) = part_bound g limit i n
      go i (inr q) = rw q (leftover_bound g limit i)
