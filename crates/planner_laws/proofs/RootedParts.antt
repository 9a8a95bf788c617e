-- "Too low, parts T, yards D": where a set of parts has fewer allowed roots than parts, every cover has a tree above the limit. For in a cover
-- within the limit the trees of the D allowed roots reach every vertex of the T parts, and all roots are joined, so that their edges can
-- replace the parts' edges in the forest. But they weigh at most D times the limit, and the parts at least T times.
-- Assumes nothing.
use Prim.Native.Nat.{ℕ, suc, ◌*◌, ◌≤◌, ◌<◌}
use mathlib.Core.Path.{refl, ap}
use mathlib.Core.Bool.{not, cond}
use mathlib.Core.List.Memᴰ
use mathlib.Core.List.{List, [], ◌++◌}
use native.Mathlib.Omega.{arith}
use native.Mathlib.Nat.{lt_of_not-le, mul-le-mul_right, suc-mul}
use lib.ListN.{length}
use Rattle.lists.specs.Count.{below}
use Rattle.lists.specs.Lists.{filter, flat, sum_of, member, times}
use Rattle.lists.specs.Member.{◌∈◌}
use lib.Dec.{eqb}
use Rattle.lists.proofs.Chosen.{chosen, of_chosen, sum_chosen, chosen_least, chosen_most}
use Rattle.lists.proofs.Fewer.{count_bounded}
use Rattle.lists.proofs.InOrder.{Once}
use Rattle.lists.proofs.Places.{map_at_places}
use Rattle.lists.proofs.Times.{times_once}
use Rattle.graph.specs.Graph.{Graph, weight_of}
use Rattle.graph.specs.Valid.{Valid}
use Rattle.matching.specs.Assignment.{IsDeficient, marked, marked_parts, allowed_roots}
use Rattle.rules.specs.Walk.{total_weight}
use Rattle.rules.specs.Cover.{Tree, at_one_end, at_other_end, tree_weight, heaviest, IsCover, rooted}
use Rattle.rules.specs.Labels.{together, merge_all}
use Rattle.rules.specs.Forest.{forest}
use Rattle.rules.specs.CoverBytes.{entry_edges}
use Rattle.rules.specs.RootedTrial.{rooted_parts, part_of, may_go}
use Rattle.rules.proofs.Linked.{linked_more}
use Rattle.rules.proofs.TreeVertices.{covered_stands}
use Rattle.forest_laws.proofs.Merging.{JoinsAll}
use Rattle.forest_laws.proofs.Roots.{Reached, reached_joined}
use Rattle.forest_laws.proofs.Forest.{Within, forest_light, forest_replaced_by}
use Rattle.split_laws.proofs.Whole.{valid_ends}
use Rattle.planner_laws.proofs.RootedWithin.{tree_at_lem, tree_light, tree_edges_light}
use Rattle.planner_laws.proofs.RootedPieces.{part_at, parts_once}
use Rattle.planner_laws.proofs.RootedNear.{allowed_to, allowed_edges, allowed_reach}

module _ (g : Graph) (roots : List ℕ) (limit : ℕ) (marks : List ℕ) where
  abbrev parts : List Tree
  parts = rooted_parts g roots limit

  -- The edges of the parts of the set.
  abbrev marked_edges : List ℕ
  marked_edges = chosen (λ i. (part_of parts i).edges) (marked marks) (length parts)

  -- Each is there once.
  marked_once : Once marked_edges
  unfolding times entry_edges part_of
  marked_once =
      times_once marked_edges (λ e. omega (
        arith,
        sum_chosen (λ x. cond (eqb e x) 1 0) (λ i. (part_of parts i).edges) (marked marks) (below (length parts)),
        parts_once g roots limit e,
        ap (λ l. sum_of (λ x. cond (eqb e x) 1 0) (flat l)) (map_at_places (λ (t : Tree). t.edges) (record { start = 0; edges = [] }) parts),
      ))

  -- They weigh at least the limit for each part.
  marked_heavy : marked_parts (length parts) marks * limit ≤ total_weight g marked_edges
  unfolding total_weight tree_weight
  marked_heavy = chosen_least (λ i. (part_of parts i).edges) (marked marks) (length parts) (weight_of g) limit (λ i h is. (part_at g roots limit i h).heavy)

  module _ {trees : List Tree} (cover : IsCover g (rooted roots) trees) (light : heaviest g trees ≤ limit) where
    -- The edges of the allowed roots' trees are within the limit,
    allowed_within : Within g limit (allowed_edges g roots limit marks trees)
    unfolding part_of
    allowed_within e m =
        let (j, h, is, n) = of_chosen (λ j. (part_of trees j).edges) (allowed_to g roots limit marks) (length roots) m in
        tree_edges_light cover light (tree_at_lem cover j h) e n

    -- and weigh at most the limit for each root.
    allowed_light : total_weight g (allowed_edges g roots limit marks trees) ≤ allowed_roots (length parts) (length roots) (may_go g roots limit) marks * limit
    unfolding total_weight tree_weight part_of
    allowed_light = chosen_most (λ j. (part_of trees j).edges) (allowed_to g roots limit marks) (length roots) (weight_of g) limit (λ j h is. tree_light cover light (tree_at_lem cover j h))

    -- So the set has no more parts than allowed roots.
    marked_no_more : Valid g → marked_parts (length parts) marks * limit ≤ allowed_roots (length parts) (length roots) (may_go g roots limit) marks * limit
    marked_no_more valid = omega (
      arith,
      marked_heavy,
      allowed_light,
      forest_replaced_by g (together roots) limit marked_edges (allowed_edges g roots limit marks trees) marked_once in_forest allowed_within joins,
    )
      where
        in_forest : (e : ℕ) → e ∈ marked_edges → e ∈ forest g (together roots) limit
        in_forest e m = let (i, h, is, n) = of_chosen (λ i. (part_of parts i).edges) (marked marks) (length parts) m in (part_at g roots limit i h).in_forest n

        rest : List ℕ
        rest = filter (λ e. not (member e marked_edges)) (forest g (together roots) limit)

        replaced : List ℕ
        replaced = rest ++ allowed_edges g roots limit marks trees

        more : {v : ℕ} → Reached g roots (allowed_edges g roots limit marks trees) v → Reached g roots replaced v
        more (r, m, l) = (r, m, linked_more (λ e n. Memᴰ.append_right rest n) l)

        joins : JoinsAll g (merge_all g (together roots) replaced) marked_edges
        joins e m =
            let (i, h, is, n) = of_chosen (λ i. (part_of parts i).edges) (marked marks) (length parts) m in
            let (one, other) = valid_ends valid e (forest_light g (together roots) limit e (in_forest e m)).0 in
            reached_joined g roots replaced
            (more (allowed_reach g roots limit marks valid cover light h is one (covered_stands g (part_of parts i) (at_one_end e n refl))))
            (more (allowed_reach g roots limit marks valid cover light h is other (covered_stands g (part_of parts i) (at_other_end e n refl))))

  -- Every cover has a tree above the limit.
  pub parts_too_low : Valid g → IsDeficient (length (rooted_parts g roots limit)) (length roots) (may_go g roots limit) marks
      → (trees : List Tree) → IsCover g (rooted roots) trees → limit < heaviest g trees
  parts_too_low valid d trees cover = lt_of_not-le (λ light. none_within light)
    where
      T : ℕ
      T = marked_parts (length parts) marks

      D : ℕ
      D = allowed_roots (length parts) (length roots) (may_go g roots limit) marks

      limit_some : 1 ≤ limit
      limit_some = (part_at g roots limit 0 (omega (arith, d.fewer, count_bounded (length parts) (marked marks)))).limit_some

      none_within : heaviest g trees ≤ limit → ⊥
      none_within light = omega (arith, limit_some, marked_no_more cover light valid, mul-le-mul_right {m = suc D} {n = T} limit d.fewer, suc-mul D limit)
