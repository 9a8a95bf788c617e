-- A rooted question is prepared once for all limits: where the edges within a limit join every vertex to a root, the forest is the whole
-- graph's, for an edge above the limit would close a loop. The forest's edges alone show which vertex is joined to no root.
-- Assumes nothing.
use Prim.Native.Nat.{ℕ, ◌≤◌, ◌<◌}
use mathlib.Core.Path.{◌≡◌, sym, ap, ◌∙◌}
use mathlib.Core.List.{List, map}
use mathlib.Core.Option.{none}
use native.Mathlib.Omega.{arith}
use lib.Dec.{leb}
use borrow.Author.Tests.{leb-true, le-leb}
use Rattle.lists.specs.Lists.{without}
use Rattle.lists.specs.Member.{◌∈◌}
use Rattle.lists.specs.Sort.{rise}
use Rattle.lists.proofs.Filters.{filter_all}
use Rattle.lists.proofs.Member.{of_filter, in_without}
use Rattle.graph.specs.Graph.{Graph, weight_of, one_end, other_end}
use Rattle.graph.specs.Valid.{Valid}
use Rattle.rules.specs.Order.{ordered}
use Rattle.rules.specs.Labels.{Labels, together, merge_all}
use Rattle.rules.specs.Forest.{keep, forest, labels_at, unjoined}
use Rattle.rules.specs.Grow.{grow}
use Rattle.rules.specs.Split.{split}
use Rattle.rules.specs.RootedTrial.{unjoined_at, rooted_pieces}
use Rattle.forest_laws.proofs.Merging.{JoinsEnds, merged_monotone}
use Rattle.forest_laws.proofs.Keeping.{kept_subset}
use Rattle.forest_laws.proofs.Loops.{kept_apart}
use Rattle.forest_laws.proofs.Ordering.{of_ordered}
use Rattle.forest_laws.proofs.Limit.{forest_within}
use Rattle.forest_laws.proofs.Forest.{forest_merges}
use Rattle.forest_laws.proofs.Unjoined.{unjoined_none}
use Rattle.split_laws.proofs.Whole.{valid_ends}

module _ (g : Graph) (roots : List ℕ) (limit : ℕ) where
  -- The labels that the edges within the limit make, and the whole graph's forest.
  abbrev labels : Labels
  labels = labels_at g (together roots) limit

  abbrev whole : List ℕ
  whole = keep g (together roots) (ordered g)

  -- The forest's edges alone show which vertex is joined to no root.
  pub forest_unjoined : unjoined g roots (merge_all g (together roots) (forest g (together roots) limit)) ≡ unjoined_at g roots limit
  unfolding unjoined_at
  forest_unjoined = ap (unjoined g roots) (forest_merges g (together roots) limit)

  -- An edge of the forest is one of the whole forest, within the limit, so another than one above the limit.
  forest_avoids : (e : ℕ) → limit < weight_of g e → (f : ℕ) → f ∈ forest g (together roots) limit → f ∈ without e whole
  forest_avoids e above f m =
      let (n, t) = of_filter (λ d. leb (weight_of g d) limit) whole (rw (forest_within g (together roots) limit) at m) in
      in_without e n (λ q. omega (arith, leb-true (weight_of g f) limit t, ap (weight_of g) q))

  -- Where the edges within the limit join its ends, no edge of the whole forest is above the limit.
  joined_light : {e : ℕ} → e ∈ whole → JoinsEnds g labels e → weight_of g e ≤ limit
  joined_light {e} m q = let none_above : limit < weight_of g e → ⊥ = above in omega arith
    where
      P : Labels
      P = together roots

      above : limit < weight_of g e → ⊥
      above h =
          kept_apart g P (ordered g) m
          (merged_monotone g P P (forest g P limit) (without e whole) (λ u v p. p) (forest_avoids e h) (one_end g e) (other_end g e) (rw (forest_merges g P limit) q))

  -- Where every edge of the whole forest is within the limit, the forest is the whole one.
  light_whole : ((e : ℕ) → e ∈ whole → weight_of g e ≤ limit) → forest g (together roots) limit ≡ whole
  light_whole light = forest_within g (together roots) limit ∙ filter_all (λ e. leb (weight_of g e) limit) whole (λ e m. le-leb (weight_of g e) limit (light e m))

  -- Where every vertex is joined to a root, every edge of the whole forest is within the limit,
  whole_light : Valid g → unjoined_at g roots limit ≡ none → (e : ℕ) → e ∈ whole → weight_of g e ≤ limit
  unfolding unjoined_at
  whole_light valid q e m =
      let same = (unjoined_none g roots labels).0 q in
      let (one, other) = valid_ends valid e (of_ordered g (kept_subset g (together roots) (ordered g) m)) in
      joined_light m (sym (same (one_end g e) one) ∙ same (other_end g e) other)

  -- so that the forest is the whole one.
  pub forest_is_whole : Valid g → unjoined_at g roots limit ≡ none → forest g (together roots) limit ≡ keep g (together roots) (ordered g)
  forest_is_whole valid q = light_whole (whole_light valid q)

  -- Then the pieces are those of the trees of the whole forest, which are grown once.
  pub pieces_of_whole : Valid g → unjoined_at g roots limit ≡ none
      → rooted_pieces g roots limit ≡ map (split g limit) (grow g (rise (keep g (together roots) (ordered g))) roots)
  unfolding rooted_pieces
  pieces_of_whole valid q = ap (λ edges. map (split g limit) (grow g (rise edges) roots)) (forest_is_whole valid q)
