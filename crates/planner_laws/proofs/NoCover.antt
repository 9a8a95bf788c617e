-- "No cover" is said exactly where no cover exists: a vertex that no edge joins to a root is covered by none, and of more components than
-- crews one is covered by none; otherwise a trial above the sum of all weights gives a cover.
-- Assumes nothing.
use Prim.Native.Nat.{ℕ, ◌≤◌, ◌<◌}
use mathlib.Core.Path.{◌≡◌, refl, sym, ◌∙◌}
use mathlib.Core.Bool.{Bool, true, false, not, false≢true}
use mathlib.Core.Logic.{◌↔◌}
use mathlib.Core.List.Memᴰ
use mathlib.Core.List.{List, map}
use mathlib.Core.Option.{Option, some, none}
use native.Mathlib.Omega.{arith}
use lib.ListN.{length, length-map}
use borrow.Author.Tests.{ltb-true}
use Rattle.lists.specs.Member.{◌∈◌}
use Rattle.lists.proofs.Member.{in_map, of_map}
use Rattle.lists.proofs.InOrder.{rising_once}
use Rattle.lists.proofs.Images.{images_once}
use Rattle.lists.proofs.Lengths.{length_within}
use Rattle.graph.specs.Graph.{Graph}
use Rattle.graph.specs.Valid.{Valid}
use Rattle.rules.specs.Walk.{Linked}
use Rattle.rules.specs.Cover.{Tree, Crews, rooted, unrooted, IsCover}
use Rattle.rules.specs.Order.{ordered}
use Rattle.rules.specs.Labels.{Labels, apart, together, merge_all}
use Rattle.rules.specs.Forest.{unjoined, lowest}
use Rattle.rules.specs.Search.{no_vertex, no_cover_exists}
use Rattle.rules.specs.Fit.{CrewsFit}
use Rattle.planner_laws.specs.Meaning.{NoneAtAll}
use Rattle.rules.proofs.Linked.{linked_more}
use Rattle.forest_laws.proofs.Ordering.{in_ordered}
use Rattle.forest_laws.proofs.Walks.{linked_merged}
use Rattle.forest_laws.proofs.Roots.{head_in, root_is_reached}
use Rattle.forest_laws.proofs.Unjoined.{unjoined_some}
use Rattle.distance_laws.proofs.Covered.{covered_linked}
use Rattle.split_laws.proofs.Lowest.{lowest_inside, lowest_rising, lowest_alike}
use Rattle.planner_laws.proofs.RootedWithin.{tree_starts}
use Rattle.planner_laws.proofs.AboveSum.{some_cover}

module _ {g : Graph} {crews : Crews} {trees : List Tree} (cover : IsCover g crews trees) where
  -- A cover has a tree for each vertex, from whose start the graph's edges link it.
  pub cover_links : (v : ℕ) → v < g.vertices → (t : Tree) × (t ∈ trees) × Linked g (ordered g) t.start v
  cover_links v h =
      let (t, m, c) = cover.all_covered.covered v h in
      let tree = cover.all_covered.are_trees t m in
      (t, m, linked_more (λ e n. in_ordered g (tree.edges_inside e n)) (covered_linked tree c))

-- ROOTED

module _ (g : Graph) (roots : List ℕ) where
  -- the labels that all edges make, with the roots joined
  abbrev from_roots : Labels
  from_roots = merge_all g (together roots) (ordered g)

  -- a vertex that is joined to no root by any edge is in no cover
  unjoined_uncovered : (v : ℕ) → unjoined g roots from_roots ≡ some v → NoneAtAll g (rooted roots)
  unjoined_uncovered v q trees cover =
      let (h, differ) = unjoined_some g roots from_roots q in
      let (tree, n, l) = cover_links cover v h in
      let root = tree_starts cover n in
      differ ((root_is_reached g roots (ordered g) (head_in root) v).1 (tree.start, root, l))

-- UNROOTED

-- the labels that all edges make
abbrev whole : Graph → Labels
whole g = merge_all g apart (ordered g)

module _ (g : Graph) (k : ℕ) where
  -- a cover has a tree for each component: the labels of the lowest vertices are among those of its starts, and all different
  components_few : {trees : List Tree} → IsCover g (unrooted k) trees → length (lowest g (whole g)) ≤ k
  components_few {trees} cover =
      omega (
        arith,
        cover.starts.1,
        length-map (lowest g (whole g)) (whole g),
        length-map trees (λ (t : Tree). whole g t.start),
        length_within (images_once (whole g) (rising_once (lowest_rising g (whole g))) (λ u v m n. lowest_alike g (whole g) m n)) among,
      )
    where
      among : (x : ℕ) → x ∈ map (whole g) (lowest g (whole g)) → x ∈ map (λ (t : Tree). whole g t.start) trees
      among x m =
          let (v, n, q) = of_map (whole g) (lowest g (whole g)) m in
          let (t, i, l) = cover_links cover v (lowest_inside g (whole g) n) in
          Memᴰ.cast (q ∙ sym (linked_merged g (ordered g) apart l)) (in_map (λ (t : Tree). whole g t.start) i)

-- "No cover" is said only where there is none.
pub no_cover_none : (g : Graph) (crews : Crews) → no_cover_exists g crews ≡ true → NoneAtAll g crews
unfolding no_cover_exists no_vertex
no_cover_none g (rooted roots) t = go (unjoined g roots (from_roots g roots)) refl t
  where
    go : (o : Option ℕ) → unjoined g roots (from_roots g roots) ≡ o → not (no_vertex o) ≡ true → NoneAtAll g (rooted roots)
    go none q t = absurd (false≢true t)
    go (some v) q t = unjoined_uncovered g roots v q
no_cover_none g (unrooted k) t = λ trees cover. omega (arith, ltb-true k (length (lowest g (whole g))) t, components_few g k cover)

-- So "no cover" is said exactly where none exists.
pub no_cover_exactly : {g : Graph} → Valid g → (crews : Crews) → CrewsFit g crews → (no_cover_exists g crews ≡ true) ↔ NoneAtAll g crews
no_cover_exactly {g} valid crews fit = (no_cover_none g crews, λ out. go out (no_cover_exists g crews) refl)
  where
    go : NoneAtAll g crews → (t : Bool) → no_cover_exists g crews ≡ t → no_cover_exists g crews ≡ true
    go out true e = e
    go out false e = let (trees, cover) = some_cover valid crews fit e in absurd (out trees cover)
