-- Rooted, accepted: each edge of a leaf that is no root stands in exactly one tree of the answer. Every vertex is joined to a root, so that the
-- forest has the edge, and one part or leftover has it. No path to a part has it, since it would not be shortest. A part goes to one root, a
-- leftover is one root's, and the tree made of their union has the edge where the union has it.
-- Assumes nothing.
use Prim.Native.Nat.{ℕ, ◌+◌, ◌≤◌, ◌<◌}
use mathlib.Core.Path.{◌≡◌, sym, ap, ◌∙◌}
use mathlib.Core.List.Memᴰ
use mathlib.Core.List.{List, [], map}
use mathlib.Core.Option.{none}
use native.Mathlib.Omega.{arith}
use lib.ListN.{length, get_or, length-map}
use Rattle.lists.specs.Count.{below}
use Rattle.lists.specs.Lists.{filter, sum_of, times}
use Rattle.lists.specs.Member.{◌∈◌}
use Rattle.lists.specs.Sort.{rise}
use Rattle.lists.proofs.Below.{of_below}
use Rattle.lists.proofs.Bounds.{sum_each}
use Rattle.lists.proofs.Dealt.{sum_places, sum_dealt}
use Rattle.lists.proofs.Member.{of_filter}
use Rattle.lists.proofs.Places.{at_place}
use Rattle.lists.proofs.Sorting.{in_rise, of_rise}
use Rattle.lists.proofs.SumsAlike.{sum_same, sum_plus, sum_of_map}
use Rattle.lists.proofs.Times.{times_append, times_flat, not_in_times}
use Rattle.graph.specs.Graph.{Graph, weight_of}
use Rattle.rules.specs.Cover.{Tree}
use Rattle.rules.specs.CoverBytes.{entry_edges}
use Rattle.rules.specs.Labels.{together}
use Rattle.rules.specs.Forest.{forest}
use Rattle.rules.specs.Split.{Pieces, split}
use Rattle.rules.specs.Distance.{tree_vertices}
use Rattle.rules.specs.RootedTrial.{Choices, unjoined_at, rooted_pieces, rooted_parts, part_of, union_tree, assigned_edges, left_at, rooted_cover}
use Rattle.rules.proofs.Leaf.{Leaf, leaf_inside, walk_to_leaf, covers_leaf_by, leaf_covers_stem}
use Rattle.rules.proofs.EntryTimes.{entry_times}
use Rattle.rules.proofs.TreeVertices.{covered_stands, stands_covered}
use Rattle.forest_laws.proofs.Forest.{forest_light}
use Rattle.forest_laws.proofs.LeafKept.{leaf_union_times}
use Rattle.distance_laws.proofs.LeafPath.{shortest_no_leaf}
use Rattle.split_laws.proofs.Trees.{tree_hangs}
use Rattle.split_laws.proofs.SplitTree.{tree_split}
use Rattle.split_laws.proofs.SplitForest.{all_left, of_all_parts}
use Rattle.split_laws.proofs.Whole.{EndsInside, valid_ends, rooted_forest, rooted_whole}
use Rattle.planner_laws.proofs.RootedPieces.{rooted_trees, trees_count, rooted_part}
use Rattle.planner_laws.proofs.RootedAssigned.{AcceptedAt, part_with_path, goes_to, part_goes}
use Rattle.planner_laws.proofs.RootedUnion.{union_at}

-- THE SUM OVER THE UNIONS

module _ (g : Graph) (roots : List ℕ) (limit : ℕ) where
  abbrev parts : List Tree
  parts = rooted_parts g roots limit

  abbrev pieces : List Pieces
  pieces = rooted_pieces g roots limit

  -- There are as many pieces as roots.
  pieces_count : length pieces ≡ length roots
  unfolding rooted_pieces
  pieces_count = length-map (rooted_trees g roots limit) (split g limit) ∙ trees_count g roots limit

  -- What is left at all roots is what is left of all trees.
  left_times : (e : ℕ) → sum_of (λ j. times e (left_at pieces j)) (below (length roots)) ≡ times e (all_left pieces)
  unfolding left_at all_left
  left_times e =
      ap (λ n. sum_of (λ j. times e (left_at pieces j)) (below n)) (sym pieces_count)
      ∙ sum_places (λ (p : Pieces). times e p.left) (record { parts = []; left = [] }) pieces
      ∙ sym (times_flat e (λ (p : Pieces). p.left) pieces)

  module _ (c : Choices) (e : ℕ) (goes : (i : ℕ) → i < length parts → get_or c.assignment i 0 < length roots)
      (no_path : (i : ℕ) → i < length parts → e ∈ get_or c.paths i [] → ⊥) where
    -- How often the edge stands in the part of a number.
    abbrev in_part : ℕ → ℕ
    in_part i = times e (part_of parts i).edges

    -- Where no path has the edge, a root is assigned it as often as the root's part has it,
    assigned_here : (j : ℕ) → times e (assigned_edges parts c j) ≡ sum_of in_part (filter (goes_to g roots limit c j) (below (length parts)))
    unfolding assigned_edges
    assigned_here j =
        times_flat e (part_with_path g roots limit c) chosen
        ∙ sum_same (λ i. times e (part_with_path g roots limit c i)) in_part chosen (λ i m. only_part i (of_filter (goes_to g roots limit c j) (below (length parts)) m).0)
      where
        chosen : List ℕ
        chosen = filter (goes_to g roots limit c j) (below (length parts))

        only_part : (i : ℕ) → i ∈ below (length parts) → times e (part_with_path g roots limit c i) ≡ in_part i
        only_part i m =
            omega (
              arith,
              times_append e (part_of parts i).edges (get_or c.paths i []),
              not_in_times e (get_or c.paths i []) (no_path i (of_below (length parts) m)),
            )

    -- and all roots as often as all parts have it.
    assigned_times : sum_of (λ j. times e (assigned_edges parts c j)) (below (length roots)) ≡ times e (entry_edges parts)
    unfolding part_of
    assigned_times =
        sum_same (λ j. times e (assigned_edges parts c j)) (λ j. sum_of in_part (filter (goes_to g roots limit c j) (below (length parts)))) (below (length roots)) (λ j m. assigned_here j)
        ∙ sum_dealt in_part (λ i. get_or c.assignment i 0) (length roots) (below (length parts)) (λ i m. goes i (of_below (length parts) m))
        ∙ sum_places (λ (t : Tree). times e t.edges) (record { start = 0; edges = [] }) parts
        ∙ sym (entry_times e parts)

    -- So it stands in all unions as often as in all parts and leftovers.
    unions_times : sum_of (λ j. times e (union_at g roots limit c j)) (below (length roots)) ≡ times e (entry_edges parts) + times e (all_left pieces)
    unions_times =
        omega (
          arith,
          sum_same (λ j. times e (union_at g roots limit c j)) (λ j. times e (assigned_edges parts c j) + times e (left_at pieces j)) (below (length roots))
              (λ j m. times_append e (assigned_edges parts c j) (left_at pieces j)),
          sum_plus (λ j. times e (assigned_edges parts c j)) (λ j. times e (left_at pieces j)) (below (length roots)),
          assigned_times,
          left_times e,
        )

-- THE LEAF EDGE

module _ {g : Graph} {e s c : ℕ} (leaf : Leaf g e s c) where
  module _ (roots : List ℕ) (limit : ℕ) where
    -- Where every vertex is joined to a root, and the leaf is none, the forest has the edge.
    pub joined_leaf_kept : (c ∈ roots → ⊥) → EndsInside g → ((r : ℕ) → r ∈ roots → r < g.vertices) → 1 ≤ length roots → unjoined_at g roots limit ≡ none → e ∈ forest g (together roots) limit
    joined_leaf_kept out ends within some joined =
        let f = rooted_forest ends limit roots within some joined in
        let (r, m, l) = f.reached c (leaf_inside leaf ends) in
        let known : (d : ℕ) → d ∈ l.path → d ∈ forest g (together roots) limit = λ d n. of_rise (forest g (together roots) limit) (l.along d n) in
        known e (walk_to_leaf leaf l.leads (λ d n. (forest_light g (together roots) limit d (known d n)).0) (λ q. out (Memᴰ.cast (sym q) m)))

    -- A part that holds the leaf has its edge, since its start too is an end of one of its edges; so it holds the vertex at the other end.
    part_holds_stem : {p : Tree} → p ∈ rooted_parts g roots limit → c ∈ tree_vertices g p → s ∈ tree_vertices g p
    unfolding rooted_parts rooted_pieces
    part_holds_stem {p} m n =
        let is = rooted_part g roots limit m in
        let (t, i, k) = of_all_parts g limit (rooted_trees g roots limit) m in
        let at_edge = ((tree_split g limit t (tree_hangs g (rise (forest g (together roots) limit)) roots i)).connected k).at_edge in
        covered_stands g p (leaf_covers_stem leaf (covers_leaf_by leaf (λ d l. (forest_light g (together roots) limit d (is.in_forest l)).0) at_edge (stands_covered g p n)))

  module _ (some : 1 ≤ weight_of g e) {roots : List ℕ} (out : c ∈ roots → ⊥) {limit : ℕ} {choices : Choices} (accepted : AcceptedAt g roots limit choices) where
    -- No path to a part has the edge.
    no_path_leaf : (i : ℕ) → i < length (rooted_parts g roots limit) → e ∈ get_or choices.paths i [] → ⊥
    unfolding part_of
    no_path_leaf i h m =
        let root : get_or roots (get_or choices.assignment i 0) 0 ∈ roots = at_place 0 roots (get_or choices.assignment i 0) (part_goes g roots limit choices accepted i h) in
        shortest_no_leaf leaf some (accepted.good.shortest accepted.assignable i h) (λ q. out (Memᴰ.cast (sym q) root))
        (part_holds_stem roots limit (at_place (record { start = 0; edges = [] }) (rooted_parts g roots limit) i h)) m

    -- One part or leftover has it,
    pieces_have_leaf : times e (entry_edges (rooted_parts g roots limit)) + times e (all_left (rooted_pieces g roots limit)) ≡ 1
    unfolding rooted_parts rooted_pieces
    pieces_have_leaf =
        let ends = valid_ends accepted.valid in
        (rooted_whole ends limit roots accepted.roots_inside accepted.some_root accepted.all_joined_lem limit
        ).edge_once (in_rise (joined_leaf_kept roots limit out ends accepted.roots_inside accepted.some_root accepted.all_joined_lem))

    -- so one union,
    unions_have_leaf : sum_of (λ j. times e (union_at g roots limit choices j)) (below (length roots)) ≡ 1
    unions_have_leaf = unions_times g roots limit choices e (part_goes g roots limit choices accepted) no_path_leaf ∙ pieces_have_leaf

    -- and one tree.
    pub rooted_served_once : times e (entry_edges (rooted_cover g roots limit choices)) ≡ 1
    unfolding rooted_cover rooted_parts
    rooted_served_once =
        let union : ℕ → List ℕ = union_at g roots limit choices in
        let tree : ℕ → Tree = λ j. union_tree g (get_or roots j 0) (union j) in
        entry_times e (map tree (below (length roots)))
        ∙ sum_of_map (λ (t : Tree). times e t.edges) tree (below (length roots))
        ∙ sum_same (λ j. times e (tree j).edges) (λ j. times e (union j)) (below (length roots))
        (λ j m. leaf_union_times leaf (get_or roots j 0) (union j) (omega (arith, sum_each (λ k. times e (union k)) m, unions_have_leaf)))
        ∙ unions_have_leaf
