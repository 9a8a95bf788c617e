-- Our longest closed walk is at most eight times the longest of anybody's closed walks that together come to every vertex: of each rival's walk take the
-- tree made of its edges. These trees are a cover, none heavier than its walk is long.
-- Assumes nothing.
use Prim.Native.Nat.{◌*◌, ◌≤◌, ◌<◌}
use mathlib.Core.Path.{◌≡◌, ◌∙◌}
use mathlib.Core.List.{List, map, map-map}
use native.Mathlib.Omega.{arith}
use lib.ListN.{length, length-map}
use Rattle.lists.specs.Lists.{largest}
use Rattle.lists.specs.Member.{◌∈◌}
use Rattle.lists.proofs.Member.{in_map, of_map}
use Rattle.lists.proofs.Lengths.{some_member}
use Rattle.lists.proofs.Largest.{largest_most, in_largest}
use Rattle.graph.specs.Graph.{Graph}
use Rattle.graph.specs.Valid.{Valid}
use Rattle.rules.specs.Walk.{Walk}
use Rattle.rules.specs.Cover.{Tree, IsTree, tree_weight, heaviest, Crews, rooted, unrooted, Starts, IsCover}
use Rattle.rules.specs.RootedTrial.{union_tree}
use Rattle.rules.specs.ClosedWalk.{Route, stops_of, length_of, closed_walk}
use Rattle.rules.specs.RivalWalks.{Begin, ClosedWalks, longest, walks_along}
use Rattle.rules.proofs.Joined.{walk_joined}
use Rattle.rules.proofs.WalkStops.{passed_linked}
use Rattle.forest_laws.proofs.UnionTree.{union_is_tree, union_weight, union_covers}
use Rattle.cover_laws.proofs.ClosedWalk.{closed_walk_closed, closed_walk_length, walk_passes}

-- THEIRS

module _ (g : Graph) where
  -- the tree of a walk's edges
  abbrev pub walk_tree : Route → Tree
  walk_tree w = union_tree g w.start w.crossings

  -- The trees start where the walks begin; there is one, since some walk comes to vertex 0.
  trees_start : Valid g → (crews : Crews) {walks : List Route} → ClosedWalks g crews walks → Starts crews (map walk_tree walks)
  unfolding union_tree
  trees_start valid (rooted roots) {walks} r = map-map _ _ walks ∙ r.begin
  trees_start valid (unrooted k) {walks} r =
      let (w, m, p) = r.together 0 (omega (arith, valid.vertices_some)) in
      let n : length (map walk_tree walks) ≡ length walks = length-map walks walk_tree in
      (omega (arith, some_member m), omega (arith, r.begin))

  -- They are a cover,
  pub rivals_cover : Valid g → {crews : Crews} {walks : List Route} → ClosedWalks g crews walks → IsCover g crews (map walk_tree walks)
  unfolding stops_of
  rivals_cover valid {crews} {walks} r = record {
    starts = trees_start valid crews r;
    all_covered = record {
      are_trees = λ t m.
          let (w, n, q) = of_map walk_tree walks m in
          rw q (union_is_tree g w.start w.crossings (r.inside w n) (walk_joined (r.closed w n)));
      covered = λ v h.
          let (w, n, p) = r.together v h in
          (walk_tree w, in_map walk_tree n, union_covers g w.start w.crossings (passed_linked (r.closed w n) p));
    };
  }

  -- and none is heavier than the longest walk is long.
  pub rivals_heaviest : (walks : List Route) → heaviest g (map walk_tree walks) ≤ longest g walks
  unfolding heaviest longest length_of
  rivals_heaviest walks = largest_most (tree_weight g) (largest (length_of g) walks) (map walk_tree walks) λ t m.
      let (w, n, q) = of_map walk_tree walks m in
      rw q (omega (arith, union_weight g w.start w.crossings, in_largest (length_of g) n))

-- OURS

-- The longest walk along trees is at most twice as long as the heaviest is heavy.
pub ours_longest : (g : Graph) (trees : List Tree) → ((t : Tree) → t ∈ trees → IsTree g t) → longest g (walks_along g trees) ≤ 2 * heaviest g trees
unfolding heaviest longest
ours_longest g trees are = largest_most (length_of g) (2 * largest (tree_weight g) trees) (walks_along g trees) λ w m.
    let (t, n, q) = of_map (closed_walk g) trees m in
    rw q (omega (arith, closed_walk_length (are t n), in_largest (tree_weight g) n))

-- "Our longest walk is at most eight times the longest of anybody's closed walks that together cover the sheet."
pub eightfold : {g : Graph} {crews : Crews} {trees : List Tree} → Valid g → IsCover g crews trees
    → ((others : List Tree) → IsCover g crews others → heaviest g trees ≤ 4 * heaviest g others)
    → (walks : List Route) → ClosedWalks g crews walks → longest g (walks_along g trees) ≤ 8 * longest g walks
eightfold {g} {trees = trees} valid cover four walks rivals =
    omega (
      arith,
      ours_longest g trees cover.all_covered.are_trees,
      four (map (walk_tree g) walks) (rivals_cover g valid rivals),
      rivals_heaviest g walks,
    )

-- The walks along a cover's trees are such walks as the rivals'.
pub ours_are_closed_walks : {g : Graph} (crews : Crews) {trees : List Tree} → IsCover g crews trees → ClosedWalks g crews (walks_along g trees)
ours_are_closed_walks {g} crews {trees} c = record {
  begin = begin crews c.starts;
  inside = λ w m. let (t, n, q) = of_map (closed_walk g) trees m in rw q (at t n).0;
  closed = λ w m. let (t, n, q) = of_map (closed_walk g) trees m in rw q (at t n).1;
  together = λ v h. let (t, n, k) = c.all_covered.covered v h in (closed_walk g t, in_map (closed_walk g) n, (walk_passes (c.all_covered.are_trees t n) v).1 k);
}
  where
    begin : (crews : Crews) → Starts crews trees → Begin crews (walks_along g trees)
    begin (rooted roots) q = unfold closed_walk in map-map _ _ trees ∙ q
    begin (unrooted k) (some, few) = omega (arith, few, length-map trees (closed_walk g))

    at : (t : Tree) → t ∈ trees → ((closed_walk g t).start < g.vertices) × Walk g (closed_walk g t).crossings (closed_walk g t).start (closed_walk g t).start
    at t n = unfold closed_walk in let tree = c.all_covered.are_trees t n in (tree.start_inside, closed_walk_closed tree)
