-- Unrooted, accepted: where the components need at most k trees, the answer is a cover by at most k trees, none above 4 B - 2. Every vertex is
-- a root or an end of an edge in a part or a leftover; a root whose leftover is dropped is an end of an edge of one of its parts.
-- Assumes nothing.
use Prim.Native.Nat.{ℕ, ◌*◌, ◌-◌, ◌≤◌, ◌<◌}
use mathlib.Core.Path.{refl, subst}
use mathlib.Core.List.Memᴰ
use mathlib.Core.Logic.{◌⊎◌, inl, inr}
use native.Mathlib.Omega.{arith}
use Rattle.lists.specs.Member.{◌∈◌}
use Rattle.lists.proofs.Member.{of_map}
use Rattle.lists.proofs.Largest.{largest_most}
use Rattle.lists.proofs.SumsAlike.{length_removed}
use Rattle.lists.proofs.Sorting.{in_rise}
use Rattle.graph.specs.Graph.{Graph}
use Rattle.graph.specs.Valid.{Valid}
use Rattle.rules.specs.Walk.{Joins}
use Rattle.rules.specs.Cover.{Tree, Covers, at_start, tree_weight, heaviest, IsCover, unrooted}
use Rattle.rules.specs.Labels.{apart}
use Rattle.rules.specs.Forest.{labels_at, lowest}
use Rattle.rules.specs.Grow.{Rooted}
use Rattle.rules.specs.Split.{split}
use Rattle.rules.specs.UnrootedTrial.{components, needed, from_lowest, component_trees, unrooted_trees}
use Rattle.rules.proofs.Linked.{joins_back}
use Rattle.rules.proofs.Joined.{joins_covers}
use Rattle.split_laws.proofs.SplitForest.{of_all_parts}
use Rattle.split_laws.proofs.RootHeld.{root_in_part}
use Rattle.split_laws.proofs.Whole.{EndsInside, valid_ends, Held, at_root, at_part, at_left, unrooted_whole}
use Rattle.planner_laws.proofs.ComponentEdges.{component_hangs, component_roots}
use Rattle.planner_laws.proofs.ComponentTrees.{component_parts, component_leftover, Dropped, part_stands, leftover_stands}
use Rattle.planner_laws.proofs.UnrootedNumber.{in_unrooted, unrooted_few}
use Rattle.planner_laws.proofs.UnrootedStart.{lowest_covers}
use Rattle.planner_laws.proofs.UnrootedTrees.{part_hung, leftover_hung, unrooted_is_tree, unrooted_weight}

module _ (g : Graph) (ends : EndsInside g) (limit : ℕ) where
  -- A tree of the answer covers v.
  abbrev HasTree : ℕ → Type 0
  HasTree v = (u : Tree) × (u ∈ unrooted_trees g limit) × Covers g u v

  module _ {t : Rooted} (m : t ∈ components g limit) where
    -- A tree of the answer covers what a part of a component covers,
    by_part : {p : Tree} {v : ℕ} → p ∈ component_parts g limit t → Covers g p v → HasTree v
    by_part n c = (_, in_unrooted g limit m (part_stands g limit t n), lowest_covers (part_hung g limit m n) c)

    -- the root,
    by_root : HasTree t.root
    by_root = go (leftover_stands g limit t)
      where
        go : (from_lowest g (component_leftover g limit t) ∈ component_trees g limit t) ⊎ Dropped g limit t → HasTree t.root
        go (inl s) = (_, in_unrooted g limit m s, lowest_covers (leftover_hung g limit m) (at_start refl))
        go (inr ((p, n), none)) =
            let (part, i, (e, far, k, j)) = root_in_part g (2 * limit) t (component_hangs g limit m) n none in
            by_part i (joins_covers k (joins_back j))

    -- and the ends of the edges that are left.
    by_left : {e far v : ℕ} → e ∈ (split g (2 * limit) t).left → Joins g e far v → HasTree v
    by_left {e} {far} {v} n j = go (leftover_stands g limit t)
      where
        go : (from_lowest g (component_leftover g limit t) ∈ component_trees g limit t) ⊎ Dropped g limit t → HasTree v
        go (inl s) = (_, in_unrooted g limit m s, lowest_covers (leftover_hung g limit m) (joins_covers (in_rise n) j))
        go (inr (p, none)) = absurd (Memᴰ.not-nil (subst (λ l. e ∈ l) none n))

  -- Every vertex is covered by a tree of the answer.
  pub unrooted_covered : (v : ℕ) → v < g.vertices → (u : Tree) × (u ∈ unrooted_trees g limit) × Covers g u v
  unfolding components
  unrooted_covered v h = go ((unrooted_whole ends limit (2 * limit)).held v h)
    where
      go : Held g (2 * limit) (lowest g (labels_at g apart limit)) (components g limit) v → HasTree v
      go (at_root m) = let (t, i, q) = of_map (λ (t : Rooted). t.root) (components g limit) (rw (← component_roots g limit) at m) in rw q (by_root i)
      go (at_part p m e far n j) = let (t, i, k) = of_all_parts g (2 * limit) (components g limit) m in by_part i k (joins_covers n j)
      go (at_left t m e far n j) = by_left m n j

-- Where the components need at most k trees, the answer is a cover by at most k trees, and its heaviest weighs at most 4 B - 2.
pub accepted_covers_unrooted : {g : Graph} → Valid g → (k limit : ℕ) → needed g limit ≤ k
    → IsCover g (unrooted k) (unrooted_trees g limit) × (heaviest g (unrooted_trees g limit) ≤ 4 * limit - 2)
unfolding heaviest
accepted_covers_unrooted {g} valid k limit few =
    let ends = valid_ends valid in
    let (u, m, c) = unrooted_covered g ends limit 0 valid.vertices_some in (
      record {
        starts = (omega (arith, length_removed m), omega (arith, unrooted_few g limit));
        all_covered = record { are_trees = λ t i. unrooted_is_tree g limit i ends; covered = unrooted_covered g ends limit };
      },
      largest_most (tree_weight g) (4 * limit - 2) (unrooted_trees g limit) (λ t i. unrooted_weight g limit i),
    )
