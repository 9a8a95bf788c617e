-- "Too low, stop v": where the edges within the limit join some vertex to no root, every cover has a tree above the limit. For a tree within
-- the limit uses only edges within it, and the tree that covers the vertex links it to a root.
-- Assumes nothing.
use Prim.Native.Nat.{ℕ, ◌≤◌, ◌<◌}
use mathlib.Core.Path.{◌≡◌, ◌∙◌}
use mathlib.Core.List.{List, head_d}
use mathlib.Core.Option.{some}
use native.Mathlib.Nat.{lt_of_not-le}
use Rattle.graph.specs.Graph.{Graph}
use Rattle.rules.specs.Cover.{Tree, heaviest, IsCover, rooted}
use Rattle.rules.specs.Order.{light}
use Rattle.rules.specs.Labels.{Labels, together}
use Rattle.rules.specs.Forest.{labels_at}
use Rattle.rules.specs.RootedTrial.{unjoined_at}
use Rattle.rules.proofs.Linked.{linked_more}
use Rattle.forest_laws.proofs.Limit.{in_light}
use Rattle.forest_laws.proofs.Merging.{merged_coarser}
use Rattle.forest_laws.proofs.Walks.{linked_merged}
use Rattle.forest_laws.proofs.Roots.{head_in, together_joins}
use Rattle.forest_laws.proofs.Unjoined.{unjoined_some}
use Rattle.distance_laws.proofs.Covered.{covered_linked}
use Rattle.planner_laws.proofs.RootedWithin.{tree_starts, tree_edges_light}

module _ (g : Graph) (roots : List ℕ) (limit : ℕ) where
  -- the labels that the edges within the limit make
  abbrev labels : Labels
  labels = labels_at g (together roots) limit

  -- a cover within the limit joins each vertex to the roots
  pub covered_joined : {trees : List Tree} → IsCover g (rooted roots) trees → heaviest g trees ≤ limit → (v : ℕ) → v < g.vertices → labels (head_d roots 0) ≡ labels v
  unfolding labels_at
  covered_joined cover within v h =
      let (t, m, c) = cover.all_covered.covered v h in
      let start = tree_starts cover m in
      let walk = covered_linked (cover.all_covered.are_trees t m) c in
      merged_coarser g (together roots) (light g limit) (head_d roots 0) t.start (together_joins roots (head_in start) start)
      ∙ linked_merged g (light g limit) (together roots) (linked_more (λ e n. let r = tree_edges_light cover within m e n in in_light g limit r.0 r.1) walk)

  -- every cover has a tree above the limit
  pub stop_too_low : {v : ℕ} → unjoined_at g roots limit ≡ some v → (trees : List Tree) → IsCover g (rooted roots) trees → limit < heaviest g trees
  unfolding unjoined_at
  stop_too_low {v} q trees cover = lt_of_not-le (λ within. let (h, apart) = unjoined_some g roots labels q in apart (covered_joined cover within v h))
