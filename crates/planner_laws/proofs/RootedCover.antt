-- An accepted limit: the trees are a cover, and the heaviest weighs at most 4 B - 2. Each tree is made of a union that hangs together at its
-- root; every vertex is a root or an end of an edge of a part or a leftover, so that one of the unions holds it.
-- Assumes nothing.
use Prim.Native.Nat.{ℕ, ◌*◌, ◌-◌, ◌≤◌, ◌<◌}
use mathlib.Core.Path.{◌≡◌, refl, ap, ◌∙◌}
use mathlib.Core.List.{List, [], map, map-map}
use native.Mathlib.Omega.{arith}
use lib.ListN.{length, get_or}
use Rattle.lists.specs.Count.{below}
use Rattle.lists.specs.Member.{◌∈◌}
use Rattle.lists.proofs.Below.{in_below, of_below}
use Rattle.lists.proofs.Largest.{largest_most}
use Rattle.lists.proofs.Member.{in_map, of_map}
use Rattle.lists.proofs.Places.{at_place, place_of}
use Rattle.lists.proofs.Runs.{map_below}
use Rattle.graph.specs.Graph.{Graph}
use Rattle.rules.specs.Walk.{Linked}
use Rattle.rules.specs.Cover.{Tree, IsTree, Covers, tree_weight, heaviest, IsCover, rooted}
use Rattle.rules.specs.RootedTrial.{Choices, rooted_pieces, rooted_parts, part_of, union_tree, rooted_cover}
use Rattle.rules.proofs.Linked.{linked_same}
use Rattle.rules.proofs.Joined.{linked_to}
use Rattle.forest_laws.proofs.UnionTree.{union_is_tree, union_weight, union_covers}
use Rattle.split_laws.proofs.Whole.{Held, at_root, at_part, at_left, valid_ends, rooted_whole}
use Rattle.planner_laws.proofs.RootedPieces.{rooted_trees, left_of_tree}
use Rattle.planner_laws.proofs.RootedAssigned.{AcceptedAt, part_goes}
use Rattle.planner_laws.proofs.RootedUnion.{union_at, part_in_union, left_in_union, union_hangs, union_light}

module _ {g : Graph} {roots : List ℕ} {limit : ℕ} {c : Choices} (accepted : AcceptedAt g roots limit c) where
  -- The tree of root j.
  abbrev tree_at : ℕ → Tree
  tree_at j = union_tree g (get_or roots j 0) (union_at g roots limit c j)

  -- The trees are those of the roots, in order.
  cover_is : rooted_cover g roots limit c ≡ map tree_at (below (length roots))
  unfolding rooted_cover rooted_parts
  cover_is = refl

  -- They start at the roots.
  cover_starts : map (λ (t : Tree). t.start) (rooted_cover g roots limit c) ≡ roots
  unfolding union_tree
  cover_starts = ap (map (λ (t : Tree). t.start)) cover_is ∙ map-map (λ (t : Tree). t.start) tree_at (below (length roots)) ∙ map_below (λ j. get_or roots j 0) 0 roots (λ j h. refl)

  -- Each is a tree,
  tree_is : (j : ℕ) → j < length roots → IsTree g (tree_at j)
  tree_is j h = union_is_tree g (get_or roots j 0) (union_at g roots limit c j) (accepted.roots_inside (get_or roots j 0) (at_place 0 roots j h)) (union_hangs g roots limit c accepted j h)

  -- covers whatever its union links to the root,
  reached_covered : {j v : ℕ} → j < length roots → Linked g (union_at g roots limit c j) (get_or roots j 0) v → (t : Tree) × (t ∈ rooted_cover g roots limit c) × Covers g t v
  reached_covered {j} h l = (tree_at j, rw cover_is (in_map tree_at (in_below (length roots) h)), union_covers g (get_or roots j 0) (union_at g roots limit c j) l)

  -- and weighs at most 4 B - 2.
  tree_light : (j : ℕ) → j < length roots → tree_weight g (tree_at j) ≤ 4 * limit - 2
  tree_light j h = omega (arith, union_weight g (get_or roots j 0) (union_at g roots limit c j), union_light g roots limit c accepted j h)

  -- Every vertex is held by one of the unions.
  held_covered : {v : ℕ} → Held g limit roots (rooted_trees g roots limit) v → (t : Tree) × (t ∈ rooted_cover g roots limit c) × Covers g t v
  unfolding rooted_parts rooted_pieces part_of
  held_covered (at_root m) = let (j, h, q) = place_of 0 m in reached_covered h (linked_same q)
  held_covered (at_part p m e far n k) =
      let (i, h, q) = place_of (record { start = 0; edges = [] }) m in
      let there = part_in_union g roots limit c i h {e = e} (rw q n) in
      let goes = part_goes g roots limit c accepted i h in
      reached_covered goes (linked_to there (union_hangs g roots limit c accepted (get_or c.assignment i 0) goes e there) k)
  held_covered (at_left t m e far n k) =
      let (j, h, q) = left_of_tree g roots limit m in
      let there = left_in_union g roots limit c j (rw q at n) in
      reached_covered h (linked_to there (union_hangs g roots limit c accepted j h e there) k)

  -- The trees are a cover.
  pub accepted_covers : IsCover g (rooted roots) (rooted_cover g roots limit c)
  accepted_covers = record {
    starts = cover_starts;
    all_covered = record {
      are_trees = λ t m. let (j, k, q) = of_map tree_at (below (length roots)) (rw cover_is at m) in rw q (tree_is j (of_below (length roots) k));
      covered = λ v h. held_covered ((rooted_whole (valid_ends accepted.valid) limit roots accepted.roots_inside accepted.some_root accepted.all_joined_lem limit).held v h);
    };
  }

  -- The heaviest weighs at most 4 B - 2.
  pub accepted_heaviest : heaviest g (rooted_cover g roots limit c) ≤ 4 * limit - 2
  unfolding heaviest
  accepted_heaviest = largest_most (tree_weight g) (4 * limit - 2) (rooted_cover g roots limit c)
      (λ t m. let (j, k, q) = of_map tree_at (below (length roots)) (rw cover_is at m) in rw q (tree_light j (of_below (length roots) k)))
