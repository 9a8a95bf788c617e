-- How large a rooted trial's pieces and trees are: the parts and the leftovers together have fewer edges than there are vertices, each part has
-- one at least, so there are fewer parts than vertices; and each tree of the answer has fewer edges than there are vertices.
-- Assumes nothing.
use Prim.Native.Nat.{ℕ, ◌+◌, ◌≤◌, ◌<◌}
use mathlib.Core.List.Memᴰ
use mathlib.Core.List.{List, ◌++◌}
use mathlib.Core.Logic.{◌⊎◌, inl, inr}
use native.Mathlib.Omega.{arith}
use lib.ListN.{length, length-append}
use Rattle.lists.specs.Count.{below}
use Rattle.lists.specs.Member.{◌∈◌}
use Rattle.lists.proofs.FlatMap.{flat_map_some}
use Rattle.lists.proofs.InOrder.{Once, rising_once}
use Rattle.lists.proofs.Lengths.{some_member}
use Rattle.lists.proofs.Member.{of_map}
use Rattle.lists.proofs.Times.{times_once, times_append}
use Rattle.graph.specs.Graph.{Graph}
use Rattle.graph.specs.Valid.{Valid}
use Rattle.rules.specs.Cover.{Tree}
use Rattle.rules.specs.Labels.{together}
use Rattle.rules.specs.Forest.{forest}
use Rattle.rules.specs.CoverBytes.{entry_edges}
use Rattle.rules.specs.RootedTrial.{Choices, rooted_pieces, rooted_parts, union_tree, rooted_cover}
use Rattle.forest_laws.proofs.FewForest.{loopless_few, forest_within_few}
use Rattle.forest_laws.proofs.Thinning.{thinned_spans}
use Rattle.split_laws.proofs.Exact.{of_part_edges}
use Rattle.split_laws.proofs.SplitForest.{all_left}
use Rattle.planner_laws.proofs.RootedPieces.{rooted_part, pieces_once, left_in_forest}

-- A tree made of a union has fewer edges than there are vertices.
union_few : {g : Graph} → Valid g → (root : ℕ) (union : List ℕ) → length (union_tree g root union).edges < g.vertices
unfolding union_tree
union_few {g} valid root union = let s = thinned_spans g union in loopless_few valid (rising_once s.rising) s.no_loop

module _ (g : Graph) (roots : List ℕ) (limit : ℕ) where
  -- The edges of all parts and those left.
  abbrev piece_edges : List ℕ
  piece_edges = entry_edges (rooted_parts g roots limit) ++ all_left (rooted_pieces g roots limit)

  -- They are edges of the forest, each once.
  pieces_in_forest : (e : ℕ) → e ∈ piece_edges → e ∈ forest g (together roots) limit
  pieces_in_forest e m = go (Memᴰ.append_cases (entry_edges (rooted_parts g roots limit)) m)
    where
      go : (e ∈ entry_edges (rooted_parts g roots limit)) ⊎ (e ∈ all_left (rooted_pieces g roots limit)) → e ∈ forest g (together roots) limit
      go (inl n) = let (p, i, k) = of_part_edges (rooted_parts g roots limit) n in (rooted_part g roots limit i).in_forest k
      go (inr n) = left_in_forest g roots limit n

  all_once : Once piece_edges
  all_once = times_once piece_edges (λ e. omega (arith, times_append e (entry_edges (rooted_parts g roots limit)) (all_left (rooted_pieces g roots limit)), pieces_once g roots limit e))

  -- Each part has an edge, so there are no more parts than edges of parts.
  parts_some : length (rooted_parts g roots limit) ≤ length (entry_edges (rooted_parts g roots limit))
  unfolding entry_edges
  parts_some = flat_map_some (λ (t : Tree). t.edges) (rooted_parts g roots limit) (λ t m. some_member (rooted_part g roots limit m).some_edge.1)

  module _ (valid : Valid g) where
    -- The parts and the leftovers together have fewer edges than there are vertices,
    pub pieces_few : length (entry_edges (rooted_parts g roots limit)) + length (all_left (rooted_pieces g roots limit)) < g.vertices
    pieces_few = omega (
      arith,
      length-append (entry_edges (rooted_parts g roots limit)) (all_left (rooted_pieces g roots limit)),
      forest_within_few valid (together roots) limit all_once pieces_in_forest,
    )

    -- so have the parts,
    pub parts_edges_few : length (entry_edges (rooted_parts g roots limit)) < g.vertices
    parts_edges_few = omega (arith, pieces_few)

    -- and there are fewer parts than vertices.
    pub rooted_parts_few : length (rooted_parts g roots limit) < g.vertices
    rooted_parts_few = omega (arith, parts_edges_few, parts_some)

    -- A tree of the answer has fewer edges than there are vertices.
    pub cover_tree_few : (c : Choices) {t : Tree} → t ∈ rooted_cover g roots limit c → length t.edges < g.vertices
    unfolding rooted_cover
    cover_tree_few c m = let (j, k, q) = of_map _ (below (length roots)) m in rw q (union_few valid _ _)
