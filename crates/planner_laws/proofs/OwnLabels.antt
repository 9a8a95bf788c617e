-- What the components need, summed over the vertices that are their own label: where labels are vertices, each component has one such
-- vertex as it has one lowest vertex, so that no lowest vertex has to be looked for.
-- Assumes nothing.
use Prim.Native.Nat.{ℕ, ◌+◌, ◌*◌, ◌/◌}
use mathlib.Core.Path.{◌≡◌, sym, ap, subst, ◌∙◌}
use mathlib.Core.List.Memᴰ
use mathlib.Core.List.{List, map}
use native.Mathlib.Omega.{arith}
use lib.Dec.{eqb}
use borrow.Author.Tests.{eqb-true, eq-eqb}
use Rattle.lists.specs.Count.{below}
use Rattle.lists.specs.Lists.{filter, sum_of}
use Rattle.lists.specs.Member.{◌∈◌}
use Rattle.lists.proofs.Member.{in_filter, of_filter, in_map, of_map}
use Rattle.lists.proofs.InOrder.{Once, filter_in_order, rising_once}
use Rattle.lists.proofs.Images.{images_once}
use Rattle.lists.proofs.Below.{in_below, of_below, below_rising}
use Rattle.lists.proofs.Sums.{sum_within}
use Rattle.lists.proofs.SumsAlike.{sum_of_map}
use Rattle.graph.specs.Graph.{Graph, one_end}
use Rattle.graph.specs.Valid.{Valid}
use Rattle.rules.specs.Walk.{total_weight}
use Rattle.rules.specs.Labels.{Labels, apart, joined, merge_all}
use Rattle.rules.specs.Forest.{forest, lowest}
use Rattle.rules.specs.UnrootedTrial.{needed}
use Rattle.forest_laws.proofs.VertexLabels.{VertexLabels, own, apart_vertices, merged_vertices}
use Rattle.forest_laws.proofs.Forest.{forest_merges}
use Rattle.split_laws.proofs.Lowest.{lowest_inside, lowest_rising, lowest_alike, lowest_of_lem}
use Rattle.split_laws.proofs.Whole.{valid_ends}
use Rattle.planner_laws.proofs.ComponentNeeds.{needed_by_labels}

-- The vertices that are their own label.
abbrev pub own_labels : Graph → Labels → List ℕ
own_labels g label = filter (own label) (below g.vertices)

module _ (g : Graph) (label : Labels) (s : VertexLabels g.vertices label) where
  -- They are the labels of the lowest vertices,
  own_of_lowest : (x : ℕ) → x ∈ map label (lowest g label) → x ∈ own_labels g label
  unfolding own
  own_of_lowest x m = go (of_map label (lowest g label) m)
    where
      go : (r : ℕ) × (r ∈ lowest g label) × (x ≡ label r) → x ∈ own_labels g label
      go (r, l, q) = in_filter (own label) (in_below g.vertices (omega (arith, s.below r (lowest_inside g label l)))) (eq-eqb (label x) x (ap label q ∙ s.itself r ∙ sym q))

  lowest_of_own : (x : ℕ) → x ∈ own_labels g label → x ∈ map label (lowest g label)
  unfolding own
  lowest_of_own x m =
      let f = of_filter (own label) (below g.vertices) m in
      let (r, o) = lowest_of_lem g label x (of_below g.vertices f.0) in
      Memᴰ.cast (sym (o.alike ∙ eqb-true (label x) x f.1)) (in_map label o.listed)

  -- each once,
  labels_once : Once (map label (lowest g label))
  labels_once = images_once label (rising_once (lowest_rising g label)) (λ u v m n q. lowest_alike g label m n q)

  own_once : Once (own_labels g label)
  own_once = filter_in_order (own label) (rising_once (below_rising g.vertices))

  -- so that a value of the lowest vertices' labels sums up over them.
  pub sum_by_own : (f : ℕ → ℕ) → sum_of (λ r. f (label r)) (lowest g label) ≡ sum_of f (own_labels g label)
  sum_by_own f =
      omega (
        arith,
        sum_of_map f label (lowest g label),
        sum_within f labels_once own_of_lowest,
        sum_within f own_once lowest_of_own,
      )

-- The sum of what the components need, by the labels that the forest's edges make: at each vertex that is its own label, what the edges
-- with this label ask for.
pub needed_by_own : {g : Graph} → Valid g → (limit : ℕ) (E : List ℕ) → E ≡ forest g apart limit
    → needed g limit ≡ sum_of (λ x. 1 + total_weight g (filter (λ e. eqb x (merge_all g apart E (one_end g e))) E) / (2 * limit)) (own_labels g (merge_all g apart E))
unfolding joined
needed_by_own {g} valid limit E are =
    needed_by_labels g limit (valid_ends valid)
    ∙ subst by_lowest (forest_merges g apart limit) (sum_by_own g made (merged_vertices valid (apart_vertices g.vertices) F) (at made F))
    ∙ ap (λ l. sum_of (at (merge_all g apart l) l) (own_labels g (merge_all g apart l))) (sym are)
  where
    F : List ℕ
    F = forest g apart limit

    made : Labels
    made = merge_all g apart F

    at : Labels → List ℕ → ℕ → ℕ
    at label l x = 1 + total_weight g (filter (λ e. eqb x (label (one_end g e))) l) / (2 * limit)

    by_lowest : Labels → Type 0
    by_lowest label = sum_of (λ r. at label F (label r)) (lowest g label) ≡ sum_of (at made F) (own_labels g made)
