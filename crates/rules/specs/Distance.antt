-- Distances (document 01, step 5): the least weight of a walk. The definition relaxes every edge as often as there are vertices.
-- Assumes nothing.
use Rattle.std.specs.Prelude.{ℕ, zero, suc, ◌+◌, ◌≤◌, ◌<◌, min, Bool, false, cond, List, [], ◌∷◌, map, get_or, leb, eqb}
use Rattle.std.proofs.Math.Option.{Option, some, none}
use Rattle.lists.specs.Count.{below}
use Rattle.lists.specs.Lists.{any, flat}
use Rattle.lists.specs.Member.{◌∈◌}
use Rattle.lists.specs.InOrder.{Once}
use Rattle.graph.specs.Graph.{Graph, edge_count, one_end, other_end, weight_of}
use Rattle.rules.specs.Walk.{Walk, total_weight}
use Rattle.rules.specs.Cover.{Tree}
use Rattle.rules.specs.ClosedWalk.{stops_from}

-- A distance; none where no walk leads there.
abbrev pub Distance : Type 0
Distance = Option ℕ

-- The smaller of two distances.
unfoldable pub nearer : Distance → Distance → Distance
nearer none d = d
nearer (some a) none = some a
nearer (some a) (some b) = some (min a b)

-- A distance with an edge's weight added.
unfoldable pub further : ℕ → Distance → Distance
further w none = none
further w (some d) = some (d + w)

-- The distance of v after one round more: the one known, or that at the other end of one of its edges with the edge's weight added, whichever
-- is least.
unfoldable pub relaxed : Graph → List Distance → ℕ → List ℕ → Distance
relaxed g known v [] = get_or known v none
relaxed g known v (e ∷ es) =
    let rest = relaxed g known v es in
    let over_one = cond (eqb (one_end g e) v) (further (weight_of g e) (get_or known (other_end g e) none)) none in
    let over_other = cond (eqb (other_end g e) v) (further (weight_of g e) (get_or known (one_end g e) none)) none in
    nearer over_one (nearer over_other rest)

-- The distances from r over walks of at most that many edges.
unfoldable pub distances_in : ℕ → Graph → ℕ → List Distance
distances_in zero g r = map (λ v. cond (eqb v r) (some 0) none) (below g.vertices)
distances_in (suc rounds) g r =
    let known = distances_in rounds g r in
    map (λ v. relaxed g known v (below (edge_count g))) (below g.vertices)

-- The distances from r.
unfoldable pub distances : Graph → ℕ → List Distance
distances g r = distances_in g.vertices g r

-- The distance is at most the limit.
unfoldable pub is_within : ℕ → Distance → Bool
is_within limit none = false
is_within limit (some d) = leb d limit

-- The vertices that a tree covers.
unfoldable pub tree_vertices : Graph → Tree → List ℕ
tree_vertices g t = t.start ∷ flat (map (λ e. one_end g e ∷ other_end g e ∷ []) t.edges)

-- The "distance to the part's nearest stop" from r is at most the limit.
unfoldable pub reaches_part : Graph → ℕ → ℕ → Tree → Bool
reaches_part g limit r part =
    let from_r = distances g r in
    any (λ v. is_within limit (get_or from_r v none)) (tree_vertices g part)

-- "A shortest path to it": a walk from r to a vertex of the part that weighs no more than any other such walk, and comes to no vertex twice, as it
-- could over weightless edges.
pub record IsShortestPath (g : Graph) (r : ℕ) (part : Tree) (path : List ℕ) : Type 0 where
  pub inside : (e : ℕ) → e ∈ path → e < edge_count g
  pub end : ℕ
  pub in_part_lem : end ∈ tree_vertices g part
  pub leads : Walk g path r end
  pub once : Once (stops_from g r path)
  pub shortest : (v : ℕ) (other : List ℕ) → v ∈ tree_vertices g part → Walk g other r v → total_weight g path ≤ total_weight g other
