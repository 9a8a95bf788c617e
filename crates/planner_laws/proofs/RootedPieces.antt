-- The pieces of a rooted trial at a limit: each part is made of edges of the forest, each edge in one part, is connected, and weighs at least
-- the limit and less than twice it; what is left at a root is connected there, and lighter than the limit.
-- Assumes nothing.
use Prim.Native.Nat.{ℕ, zero, suc, ◌+◌, ◌*◌, ◌-◌, ◌≤◌, ◌<◌}
use mathlib.Core.Path.{◌≡◌, sym, ap, ◌∙◌}
use mathlib.Core.List.Memᴰ
use mathlib.Core.List.{List, []}
use native.Mathlib.Omega.{arith}
use lib.ListN.{length, get_or, length-map, get_or-map}
use Rattle.lists.specs.Lists.{times}
use Rattle.lists.specs.Member.{◌∈◌}
use Rattle.lists.specs.Sort.{rise}
use Rattle.lists.proofs.Bounds.{sum_most}
use Rattle.lists.proofs.Places.{at_place, place_of}
use Rattle.lists.proofs.Sorting.{of_rise}
use Rattle.graph.specs.Graph.{Graph, weight_of}
use Rattle.rules.specs.Walk.{total_weight}
use Rattle.rules.specs.Cover.{Tree, tree_weight}
use Rattle.rules.specs.Labels.{together}
use Rattle.rules.specs.Forest.{forest}
use Rattle.rules.specs.Grow.{none, Rooted, branch_edges, grow}
use Rattle.rules.specs.Split.{Pieces, split_at, split}
use Rattle.rules.specs.CoverBytes.{entry_edges}
use Rattle.rules.specs.RootedTrial.{rooted_pieces, rooted_parts, part_of, left_at}
use Rattle.rules.proofs.Joined.{JoinedTo}
use Rattle.forest_laws.proofs.Forest.{forest_light}
use Rattle.split_laws.proofs.Weights.{no_parts}
use Rattle.split_laws.proofs.Trees.{grow_roots, tree_hangs, tree_edge_known}
use Rattle.split_laws.proofs.SplitTree.{IsSplit, tree_split}
use Rattle.split_laws.proofs.SplitForest.{all_left, of_all_parts, of_all_left, forest_split_once}

-- With threshold 0 nothing is split off.
none_at_zero : (g : Graph) (t : Rooted) {p : Tree} → p ∈ (split g 0 t).parts → ⊥
unfolding split
none_at_zero g t m = Memᴰ.not-nil (rw (no_parts g t.root [] t.branches) at m)

-- So where there is a part the threshold is not 0.
pub part_splits : (g : Graph) (H : ℕ) (t : Rooted) {p : Tree} → p ∈ (split g H t).parts → 1 ≤ H
part_splits g zero t m = absurd (none_at_zero g t m)
part_splits g (suc n) t m = omega arith

-- What is left of a tree whose edges are within the threshold is lighter than the threshold, or weighs nothing where that is 0.
left_lighter : (g : Graph) (H : ℕ) (t : Rooted) {pieces : Pieces} → IsSplit g H t pieces → ((e : ℕ) → e ∈ branch_edges t.branches → weight_of g e ≤ H)
    → total_weight g pieces.left ≤ H - 1
unfolding total_weight
left_lighter g zero t {pieces} s within = omega (arith, sum_most (weight_of g) 0 pieces.left (λ e m. within e (s.left_edges m)))
left_lighter g (suc n) t s within = omega (arith, s.left_below (omega arith) within)

-- What is known of each part of a rooted trial.
pub record IsPart (g : Graph) (roots : List ℕ) (limit : ℕ) (p : Tree) : Type 0 where
  pub limit_some : 1 ≤ limit
  pub in_forest : {e : ℕ} → e ∈ p.edges → e ∈ forest g (together roots) limit
  pub heavy : limit ≤ tree_weight g p
  pub light : tree_weight g p < 2 * limit
  pub joined : JoinedTo g p.start p.edges
  pub some_edge : (e : ℕ) × (e ∈ p.edges)

-- What is known of the edges left at a root.
pub record IsLeft (g : Graph) (roots : List ℕ) (limit r : ℕ) (left : List ℕ) : Type 0 where
  pub in_forest : {e : ℕ} → e ∈ left → e ∈ forest g (together roots) limit
  pub joined : JoinedTo g r left
  pub light : total_weight g left ≤ limit - 1

-- A root without branches.
abbrev bare : Rooted
bare = record { root = 0; branches = none }

module _ (g : Graph) (roots : List ℕ) (limit : ℕ) where
  -- The trees of the forest.
  abbrev pub rooted_trees : List Rooted
  rooted_trees = grow g (rise (forest g (together roots) limit)) roots

  -- An edge of one of them is an edge of the forest,
  tree_in_forest : {t : Rooted} → t ∈ rooted_trees → {e : ℕ} → e ∈ branch_edges t.branches → e ∈ forest g (together roots) limit
  tree_in_forest m n = of_rise (forest g (together roots) limit) (tree_edge_known g (rise (forest g (together roots) limit)) roots m n)

  -- and within the limit.
  tree_within : {t : Rooted} → t ∈ rooted_trees → (e : ℕ) → e ∈ branch_edges t.branches → weight_of g e ≤ limit
  tree_within m e n = (forest_light g (together roots) limit e (tree_in_forest m n)).1

  -- What splitting one of them gives.
  tree_pieces : {t : Rooted} → t ∈ rooted_trees → IsSplit g limit t (split g limit t)
  tree_pieces {t} m = tree_split g limit t (tree_hangs g (rise (forest g (together roots) limit)) roots m)

  -- Every part is such a part.
  pub rooted_part : {p : Tree} → p ∈ rooted_parts g roots limit → IsPart g roots limit p
  unfolding rooted_parts rooted_pieces
  rooted_part m =
      let (t, i, n) = of_all_parts g limit rooted_trees m in
      let s = tree_pieces i in
      let some = part_splits g limit t n in
      let (e, far, k, j) = (s.connected n).at_edge in
      record {
        limit_some = some;
        in_forest = λ d. tree_in_forest i (s.part_edges n d);
        heavy = s.heavy n;
        light = s.light some (tree_within i) n;
        joined = (s.connected n).joined;
        some_edge = (e, k);
      }

  -- So is the part of each number.
  pub part_at : (i : ℕ) → i < length (rooted_parts g roots limit) → IsPart g roots limit (part_of (rooted_parts g roots limit) i)
  unfolding part_of
  part_at i h = rooted_part (at_place (record { start = 0; edges = [] }) (rooted_parts g roots limit) i h)

  -- What is left of all trees are edges of the forest.
  pub left_in_forest : {e : ℕ} → e ∈ all_left (rooted_pieces g roots limit) → e ∈ forest g (together roots) limit
  unfolding rooted_pieces
  left_in_forest m = let (t, i, n) = of_all_left g limit rooted_trees m in tree_in_forest i ((tree_pieces i).left_edges n)

  -- No edge is in two of the pieces, nor in two of the parts.
  pub pieces_once : (e : ℕ) → times e (entry_edges (rooted_parts g roots limit)) + times e (all_left (rooted_pieces g roots limit)) ≤ 1
  unfolding rooted_parts rooted_pieces
  pieces_once e = forest_split_once g limit (rise (forest g (together roots) limit)) roots e

  pub parts_once : (e : ℕ) → times e (entry_edges (rooted_parts g roots limit)) ≤ 1
  parts_once e = omega (arith, pieces_once e)

  -- There are as many trees as roots.
  pub trees_count : length rooted_trees ≡ length roots
  trees_count = sym (length-map rooted_trees (λ (t : Rooted). t.root)) ∙ ap length (grow_roots g (rise (forest g (together roots) limit)) roots)

  module _ (j : ℕ) where
    abbrev tree_here : Rooted
    tree_here = get_or rooted_trees j bare

    -- The tree of a number stands at the root of that number.
    tree_here_root : tree_here.root ≡ get_or roots j 0
    tree_here_root =
        sym (get_or-map (λ (t : Rooted). t.root) rooted_trees j bare) ∙ ap (λ (l : List ℕ). get_or l j 0) (grow_roots g (rise (forest g (together roots) limit)) roots)

    -- What is left at the root of a number is left of its tree.
    left_here : left_at (rooted_pieces g roots limit) j ≡ (split g limit tree_here).left
    unfolding left_at rooted_pieces split split_at
    left_here = ap (λ (s : Pieces). s.left) (get_or-map (split g limit) rooted_trees j bare)

    -- What is left at each root is such a leftover.
    pub rooted_left : j < length roots → IsLeft g roots limit (get_or roots j 0) (left_at (rooted_pieces g roots limit) j)
    rooted_left h =
        let i : tree_here ∈ rooted_trees = at_place bare rooted_trees j (omega (arith, trees_count)) in
        let s = tree_pieces i in
        rw (left_here, ← tree_here_root) (record {
          in_forest = λ m. tree_in_forest i (s.left_edges m);
          joined = s.left_joined;
          light = left_lighter g limit tree_here s (tree_within i);
        })

  -- What is left of each tree is what is left at the root of its number.
  pub left_of_tree : {t : Rooted} → t ∈ rooted_trees → (j : ℕ) × (j < length roots) × ((split g limit t).left ≡ left_at (rooted_pieces g roots limit) j)
  left_of_tree m =
      let (j, h, q) = place_of bare m in
      (j, omega (arith, trees_count), sym (left_here j ∙ ap (λ (t : Rooted). (split g limit t).left) q))
