-- A test holds at a vertex of a part exactly where it holds at the part's start or at an end of one of its edges, in whatever order the edges
-- stand. An arc of v has the ends of its edge: v and its head.
-- Assumes nothing.
use Prim.Native.Nat.{ℕ, ◌<◌}
use mathlib.Core.Path.{◌≡◌, refl, sym, ap, ◌∙◌}
use mathlib.Core.Bool.{Bool, true, false, cond, ◌||◌, or_assoc, or_comm}
use mathlib.Core.List.{List, [], ◌∷◌, map}
use native.Mathlib.Omega.{arith}
use lib.Dec.{eqb, leb}
use borrow.Author.Tests.{eqb-true}
use Rattle.lists.specs.Lists.{any, flat, filter}
use Rattle.lists.specs.Member.{◌∈◌}
use Rattle.lists.specs.Segments.{segment}
use Rattle.lists.specs.Sort.{insert_by, sort_by, rise}
use Rattle.lists.proofs.Member.{of_filter, of_map}
use Rattle.graph.specs.Graph.{Graph, one_end, other_end}
use Rattle.rules.specs.Cover.{Tree}
use Rattle.rules.specs.Distance.{tree_vertices}
use Rattle.rules.specs.Grow.{far_end, touches}
use Rattle.rules.specs.Split.{part_at}
use Rattle.edges.specs.Around.{arc_of, arc_edge, arc_head, arcs_at, Around}
use Rattle.edges.proofs.Arcs.{arc_edge_lem, valid_arc_head}

-- Two that stand before a third change places.
pub or_swap : (a b c : Bool) → a || (b || c) ≡ b || (a || c)
or_swap true true c = refl
or_swap true false c = refl
or_swap false b c = refl

-- Sorting loses and adds no element, so that some number passes a test before exactly where one passes then.
module _ (f : ℕ → Bool) where
  any_insert : (x : ℕ) (xs : List ℕ) → any f (insert_by leb x xs) ≡ f x || any f xs
  unfolding any insert_by
  any_insert x [] = refl
  any_insert x (y ∷ ys) = go (leb x y) (any_insert x ys)
    where
      go : (b : Bool) → any f (insert_by leb x ys) ≡ f x || any f ys → any f (cond b (x ∷ y ∷ ys) (y ∷ insert_by leb x ys)) ≡ f x || (f y || any f ys)
      go true ih = refl
      go false ih = ap (λ t. f y || t) ih ∙ or_swap (f y) (f x) (any f ys)

  any_rise : (xs : List ℕ) → any f (rise xs) ≡ any f xs
  unfolding any rise sort_by
  any_rise [] = refl
  any_rise (x ∷ xs) = any_insert x (rise xs) ∙ ap (λ t. f x || t) (any_rise xs)

module _ (g : Graph) (test : ℕ → Bool) where
  -- The test holds at an end of the edge.
  abbrev pub edge_touched : ℕ → Bool
  edge_touched e = test (one_end g e) || test (other_end g e)

  -- It holds at a vertex of the part.
  abbrev pub part_touched : Tree → Bool
  part_touched part = any test (tree_vertices g part)

  ends_by_edges : (es : List ℕ) → any test (flat (map (λ e. one_end g e ∷ other_end g e ∷ []) es)) ≡ any edge_touched es
  unfolding any flat
  ends_by_edges [] = refl
  ends_by_edges (e ∷ es) =
      ap (λ t. test (one_end g e) || (test (other_end g e) || t)) (ends_by_edges es) ∙ sym (or_assoc (test (one_end g e)) (test (other_end g e)) (any edge_touched es))

  pub part_by_edges : (v : ℕ) (es : List ℕ) → part_touched (part_at v es) ≡ test v || any edge_touched es
  unfolding tree_vertices part_at any
  part_by_edges v es = ap (λ t. test v || t) (ends_by_edges (rise es) ∙ any_rise edge_touched es)

  -- The ends of an edge that has v as an end are v and the far end.
  far_touched : (v e : ℕ) → touches g v e ≡ true → edge_touched e ≡ test v || test (far_end g e v)
  unfolding touches far_end
  far_touched v e = go (eqb (one_end g e) v) refl
    where
      go : (b : Bool) → eqb (one_end g e) v ≡ b → b || eqb (other_end g e) v ≡ true → edge_touched e ≡ test v || test (cond b (other_end g e) (one_end g e))
      go true p q = ap (λ u. test u || test (other_end g e)) (eqb-true (one_end g e) v p)
      go false p q =
          ap (λ u. test (one_end g e) || test u) (eqb-true (other_end g e) v q) ∙ or_comm (test (one_end g e)) (test v)

  pub arc_touched : {edges bounds arcs : List ℕ} → Around g edges bounds arcs → {v arc : ℕ} → v < g.vertices → arc ∈ segment bounds arcs v
      → edge_touched (arc_edge arc) ≡ test v || test (arc_head arc)
  unfolding arcs_at
  arc_touched {edges} around {v} {arc} inside m =
      let (e, k, q) = of_map (arc_of g v) (filter (touches g v) edges) (rw (around.are v inside) at m) in
      let (known, at_v) = of_filter (touches g v) edges k in
      let fits : e < 65536 = omega (arith, around.inside e known, around.valid.edges_most) in
      ap (λ a. edge_touched (arc_edge a)) q
      ∙ ap edge_touched (arc_edge_lem g v e fits)
      ∙ far_touched v e at_v
      ∙ ap (λ u. test v || test u) (sym (ap arc_head q ∙ valid_arc_head around.valid v e fits))
