-- The test of the trees (34) says yes exactly where no tree has a loop or an edge not joined to its start.
-- Assumes nothing.
use mathlib.Core.Path.{◌≡◌}
use mathlib.Core.Bool.{true}
use mathlib.Core.List.{List}
use borrow.Author.Tests.{eqb-true, eq-eqb}
use Rattle.lists.specs.Member.{◌∈◌}
use Rattle.lists.proofs.Every.{both_true, first_true, second_true, all_each, each_all}
use Rattle.lists.proofs.InOrder.{Rising, rising_once}
use Rattle.graph.specs.Graph.{Graph, one_end}
use Rattle.rules.specs.Cover.{Tree}
use Rattle.rules.specs.Labels.{apart, joined, merge_all}
use Rattle.rules.specs.CheckCover.{loop_free, all_joined, tree_right, trees_right}
use Rattle.rules.proofs.Joined.{JoinedTo}
use Rattle.forest_laws.proofs.Walks.{merged_linked, linked_merged}
use Rattle.cover_laws.proofs.LoopTest.{NoLoop, loop_free_is_loopless}

module _ (g : Graph) where
  -- Where the test of the edges says yes, all are joined to the start.
  pub passed_joined : (t : Tree) → all_joined g t ≡ true → JoinedTo g t.start t.edges
  unfolding all_joined joined
  passed_joined t s e m =
      merged_linked g t.edges t.start (one_end g e)
      (eqb-true _ _ (all_each (λ f. joined (merge_all g apart t.edges) t.start (one_end g f)) t.edges s m))

  -- Where all are joined to the start, the test of the edges says yes.
  pub joined_passes : (t : Tree) → JoinedTo g t.start t.edges → all_joined g t ≡ true
  unfolding all_joined joined
  joined_passes t h = each_all (λ f. joined (merge_all g apart t.edges) t.start (one_end g f)) t.edges (λ e m. eq-eqb _ _ (linked_merged g t.edges apart (h e m)))

  -- Trees with rising edges that pass the test have no loop, and their edges are joined to their starts.
  pub passed_trees : (trees : List Tree) → trees_right g trees ≡ true → (t : Tree) → t ∈ trees → Rising t.edges → NoLoop g t.edges × JoinedTo g t.start t.edges
  unfolding trees_right
  passed_trees trees s t m rising =
      let r = all_each (tree_right g) trees s m in
      let loops = loop_free g apart t.edges in
      ((loop_free_is_loopless g (rising_once rising)).0 (first_true loops (all_joined g t) r), passed_joined t (second_true loops (all_joined g t) r))

  -- Trees with rising edges, without a loop and joined to their starts, pass the test.
  pub trees_pass : (trees : List Tree) → ((t : Tree) → t ∈ trees → Rising t.edges × NoLoop g t.edges × JoinedTo g t.start t.edges) → trees_right g trees ≡ true
  unfolding trees_right
  trees_pass trees h = each_all (tree_right g) trees (λ t m. let r = h t m in both_true ((loop_free_is_loopless g (rising_once r.0)).1 r.1) (joined_passes t r.2))
