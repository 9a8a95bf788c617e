-- Whoever covers a vertex of a part within the limit starts at a root that the part may go to: the vertex is within the tree's weight of the
-- tree's start. So a set of parts is covered, within the limit, by trees of the roots allowed to it alone.
-- Assumes nothing.
use Prim.Native.Nat.{ℕ, ◌≤◌, ◌<◌}
use mathlib.Core.Path.{◌≡◌, sym, ap, ◌∙◌}
use mathlib.Core.Bool.{Bool, true, ◌&&◌}
use mathlib.Core.List.{List, []}
use native.Mathlib.Omega.{arith}
use lib.ListN.{length}
use Rattle.lists.specs.Count.{any_below}
use Rattle.lists.specs.Member.{◌∈◌}
use Rattle.lists.proofs.AnyBelow.{found_any_below}
use Rattle.lists.proofs.Chosen.{chosen, in_chosen}
use Rattle.lists.proofs.Every.{both_true}
use Rattle.lists.proofs.Places.{place_of}
use Rattle.graph.specs.Graph.{Graph}
use Rattle.graph.specs.Valid.{Valid}
use Rattle.matching.specs.Assignment.{marked}
use Rattle.rules.specs.Cover.{Tree, Covers, IsTree, tree_weight, heaviest, IsCover, rooted}
use Rattle.rules.specs.Distance.{tree_vertices, reaches_part}
use Rattle.rules.specs.RootedTrial.{rooted_parts, part_of, may_go}
use Rattle.rules.proofs.Linked.{linked_more}
use Rattle.forest_laws.proofs.Roots.{Reached}
use Rattle.distance_laws.proofs.NearPart.{reaches_near}
use Rattle.distance_laws.proofs.Covered.{covered_linked, covered_light}
use Rattle.planner_laws.proofs.RootedWithin.{tree_starts, tree_count, start_at, tree_light}

-- The start of a tree that covers a vertex of a part is as near to the part as the tree is light.
covered_reaches : {g : Graph} → Valid g → (limit : ℕ) (part : Tree) {t : Tree} {v : ℕ} → IsTree g t → tree_weight g t ≤ limit → Covers g t v → v ∈ tree_vertices g part
    → reaches_part g limit t.start part ≡ true
unfolding tree_weight
covered_reaches {g} valid limit part {t} {v} tree light c m =
    let w = covered_light tree c in
    (reaches_near valid tree.start_inside limit part).1 (record { end = v; in_part_lem = m; path = w.path; leads = w.leads; light = omega (arith, w.light) })

module _ (g : Graph) (roots : List ℕ) (limit : ℕ) (marks : List ℕ) where
  -- The root of a number is allowed to a part of the set.
  abbrev pub allowed_to : ℕ → Bool
  allowed_to j = any_below (length (rooted_parts g roots limit)) (λ i. marked marks i && may_go g roots limit i j)

  -- The edges of the trees of those roots.
  abbrev pub allowed_edges : List Tree → List ℕ
  allowed_edges trees = chosen (λ j. (part_of trees j).edges) allowed_to (length roots)

  module _ (valid : Valid g) {trees : List Tree} (cover : IsCover g (rooted roots) trees) (light : heaviest g trees ≤ limit) where
    -- A tree that covers a vertex of a part of the set is the tree of such a root.
    near_allowed : (i j : ℕ) {v : ℕ} → i < length (rooted_parts g roots limit) → marked marks i ≡ true → part_of trees j ∈ trees
        → Covers g (part_of trees j) v → v ∈ tree_vertices g (part_of (rooted_parts g roots limit) i) → allowed_to j ≡ true
    unfolding may_go
    near_allowed i j h is m c n =
        found_any_below (λ k. marked marks k && may_go g roots limit k j) (length (rooted_parts g roots limit)) h
        (both_true is (ap (λ (r : ℕ). reaches_part g limit r (part_of (rooted_parts g roots limit) i)) (sym (start_at cover j))
        ∙ covered_reaches valid limit (part_of (rooted_parts g roots limit) i) (cover.all_covered.are_trees (part_of trees j) m) (tree_light cover light m) c n))

    -- So every vertex of a part of the set is linked to a root by the edges of those trees.
    pub allowed_reach : {i v : ℕ} → i < length (rooted_parts g roots limit) → marked marks i ≡ true → v < g.vertices
        → v ∈ tree_vertices g (part_of (rooted_parts g roots limit) i) → Reached g roots (allowed_edges trees) v
    unfolding part_of
    allowed_reach {i} {v} h is inside n =
        let (t, m, c) = cover.all_covered.covered v inside in
        let (j, k, q) = place_of (record { start = 0; edges = [] }) m in
        let here : part_of trees j ∈ trees = rw q m in
        let covers : Covers g (part_of trees j) v = rw q c in
        let root : j < length roots = omega (arith, tree_count cover) in
        let allowed = near_allowed i j h is here covers n in
        let walk = covered_linked (cover.all_covered.are_trees (part_of trees j) here) covers in
        ((part_of trees j).start, tree_starts cover here, linked_more (λ e d. in_chosen (λ x. (part_of trees x).edges) allowed_to (length roots) j root allowed d) walk)
