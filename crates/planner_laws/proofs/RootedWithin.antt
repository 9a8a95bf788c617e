-- A rooted cover in which no tree weighs more than a limit: its trees start at the roots, one for each, and their edges are within the limit.
-- Assumes nothing.
use Prim.Native.Nat.{ℕ, ◌≤◌, ◌<◌}
use mathlib.Core.Path.{◌≡◌, sym, ap, ◌∙◌}
use mathlib.Core.List.{List, []}
use native.Mathlib.Omega.{arith}
use lib.ListN.{length, get_or, length-map, get_or-map}
use Rattle.lists.specs.Member.{◌∈◌}
use Rattle.lists.proofs.Member.{in_map}
use Rattle.lists.proofs.Places.{at_place}
use Rattle.lists.proofs.Bounds.{sum_each}
use Rattle.lists.proofs.Largest.{in_largest}
use Rattle.graph.specs.Graph.{Graph, weight_of}
use Rattle.rules.specs.Walk.{total_weight}
use Rattle.rules.specs.Cover.{Tree, tree_weight, heaviest, IsCover, rooted}
use Rattle.rules.specs.RootedTrial.{part_of}
use Rattle.forest_laws.proofs.Forest.{Within}

module _ {g : Graph} {roots : List ℕ} {trees : List Tree} (cover : IsCover g (rooted roots) trees) where
  -- a tree starts at a root
  pub tree_starts : {t : Tree} → t ∈ trees → t.start ∈ roots
  tree_starts m = rw cover.starts at (in_map (λ (t : Tree). t.start) m)

  -- there are as many trees as roots
  pub tree_count : length trees ≡ length roots
  tree_count = sym (length-map trees (λ (t : Tree). t.start)) ∙ ap length cover.starts

  -- there is a tree for each root
  pub tree_at_lem : (j : ℕ) → j < length roots → part_of trees j ∈ trees
  unfolding part_of
  tree_at_lem j h = at_place (record { start = 0; edges = [] }) trees j (omega (arith, tree_count))

  -- the tree of a number starts at the root of that number
  pub start_at : (j : ℕ) → (part_of trees j).start ≡ get_or roots j 0
  unfolding part_of
  start_at j = sym (get_or-map (λ (t : Tree). t.start) trees j (record { start = 0; edges = [] })) ∙ ap (λ (l : List ℕ). get_or l j 0) cover.starts

  module _ {limit : ℕ} (light : heaviest g trees ≤ limit) where
    -- a tree is within the limit
    pub tree_light : {t : Tree} → t ∈ trees → tree_weight g t ≤ limit
    unfolding heaviest
    tree_light m = omega (arith, in_largest (tree_weight g) m)

    -- so are its edges
    pub tree_edges_light : {t : Tree} → t ∈ trees → Within g limit t.edges
    unfolding tree_weight total_weight
    tree_edges_light {t} m e n = ((cover.all_covered.are_trees t m).edges_inside e n, omega (arith, tree_light m, sum_each (weight_of g) n))
