-- How large trees and covers are: a tree has fewer edges than there are vertices, so at most 32 trees have at most 255 edges each, and their
-- bytes are at most 32,708.
-- Assumes nothing.
use Prim.Native.Nat.{◌*◌, ◌≤◌, ◌<◌}
use mathlib.Core.Path.{ap}
use mathlib.Core.List.{List}
use native.Mathlib.Omega.{arith}
use lib.ListN.{length, length-map}
use Rattle.lists.specs.Member.{◌∈◌}
use Rattle.lists.proofs.Bounds.{sum_most}
use Rattle.lists.proofs.InOrder.{rising_once}
use Rattle.lists.proofs.SumsAlike.{length_flat_map}
use Rattle.graph.specs.Graph.{Graph}
use Rattle.graph.specs.Valid.{Valid}
use Rattle.rules.specs.Cover.{Tree, IsTree, Crews, rooted, unrooted, Starts, IsCover}
use Rattle.rules.specs.CoverBytes.{entry_edges, encode}
use Rattle.rules.specs.Questions.{least_room}
use Rattle.rules.specs.Fit.{crew_count}
use Rattle.forest_laws.proofs.FewForest.{loopless_few}
use Rattle.cover_laws.proofs.Writing.{Fits, length_encode}

-- A cover has no more trees than there are crews.
pub trees_few : (crews : Crews) (trees : List Tree) → Starts crews trees → length trees ≤ crew_count crews
unfolding crew_count
trees_few (rooted roots) trees s = omega (arith, length-map trees (λ (t : Tree). t.start), ap length s)
trees_few (unrooted k) trees s = s.1

-- Trees of at most 255 edges each have at most so many entries together,
pub entries_few : (trees : List Tree) → ((t : Tree) → t ∈ trees → length t.edges ≤ 255) → length (entry_edges trees) ≤ 255 * length trees
unfolding entry_edges
entries_few trees each = omega (arith, length_flat_map (λ (t : Tree). t.edges) trees, sum_most (λ (t : Tree). length t.edges) 255 trees each)

-- and the bytes of at most 32 of them are at most 32,708.
pub bytes_few : (trees : List Tree) → length trees ≤ 32 → ((t : Tree) → t ∈ trees → length t.edges ≤ 255) → length (encode trees) ≤ least_room
bytes_few trees few each = omega (arith, length_encode trees, entries_few trees each)

module _ (g : Graph) (valid : Valid g) where
  -- A tree has fewer edges than there are vertices.
  pub tree_edges_few : (t : Tree) → IsTree g t → length t.edges < g.vertices
  tree_edges_few t is = loopless_few valid (rising_once is.rising) is.no_loop

  -- At most 32 trees, a cover's or not: their numbers fit fields of two bytes, and their bytes are at most 32,708.
  module _ (trees : List Tree) (few : length trees ≤ 32) (are : (t : Tree) → t ∈ trees → IsTree g t) where
    each_few : (t : Tree) → t ∈ trees → length t.edges ≤ 255
    each_few t m = omega (arith, tree_edges_few t (are t m), valid.vertices_most)

    pub trees_fit : Fits trees
    trees_fit =
        record {
          trees = omega arith;
          entries = omega (arith, entries_few trees each_few);
          starts = λ t m. omega (arith, (are t m).start_inside, valid.vertices_most);
          edges = λ t m e k. omega (arith, (are t m).edges_inside e k, valid.edges_most);
        }

    pub trees_length : length (encode trees) ≤ least_room
    trees_length = bytes_few trees few each_few

  -- So for a cover.
  module _ (crews : Crews) (few : crew_count crews ≤ 32) (trees : List Tree) (cover : IsCover g crews trees) where
    pub cover_few : length trees ≤ 32
    cover_few = omega (arith, trees_few crews trees cover.starts)

    pub cover_fits : Fits trees
    cover_fits = trees_fit trees cover_few cover.all_covered.are_trees
