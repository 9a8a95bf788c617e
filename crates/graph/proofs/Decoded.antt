-- The graph that the bytes spell, field by field: how many edges it has, and that each edge's ends and weight are fields of the bytes.
-- Assumes nothing.
use Prim.Native.Nat.{ℕ, ◌+◌, ◌≤◌, ◌<◌}
use mathlib.Core.Path.{◌≡◌, refl, sym, ap, subst, ◌∙◌}
use mathlib.Core.Logic.{dite}
use mathlib.Core.List.{List}
use native.Mathlib.Decide.{dec_lt, ℕ_discrete}
use native.Mathlib.Omega.{arith}
use lib.ListN.{length, get_or-eq_default}
use borrow.Author.Tests.{eq-eqb, ne_eqb}
use Rattle.lists.proofs.Runs.{length_map_below, get_or_map_below}
use Rattle.graph.specs.Graph.{Edge, Graph, edge_count, no_edge, edge_at, one_end, other_end, weight_of}
use Rattle.graph.specs.Bytes.{u16_at, u32_at, vertices_in, edges_in, length_for, ends_at, weight_at, edge_in, edges_held, sheet_graph}

-- The counts: the head says how many vertices there are, and, where the length is right, how many edges.
module _ (b : List ℕ) where
  pub vertices_head : (sheet_graph b).vertices ≡ vertices_in b
  unfolding sheet_graph
  vertices_head = refl

  held : edge_count (sheet_graph b) ≡ edges_held b
  unfolding sheet_graph
  held = length_map_below (edge_in b) (edges_held b)

  pub edges_sized : length b ≡ length_for (edges_in b) → edge_count (sheet_graph b) ≡ edges_in b
  unfolding edges_held
  edges_sized s = held ∙ simp (eq-eqb (length b) (length_for (edges_in b)) s)

  pub edges_unsized : (length b ≡ length_for (edges_in b) → ⊥) → edge_count (sheet_graph b) ≡ 0
  unfolding edges_held
  edges_unsized d = held ∙ simp (ne_eqb (length b) (length_for (edges_in b)) d)

-- Where there is an edge of number e, the length is right, the edge's fields lie within the bytes, and the edge is made of them.
module _ (b : List ℕ) (e : ℕ) (h : e < edge_count (sheet_graph b)) where
  pub sized : length b ≡ length_for (edges_in b)
  sized = dite (ℕ_discrete (length b) (length_for (edges_in b))) (λ s. s) (λ d. absurd (omega (arith, edges_unsized b d)))

  pub edges_head : edge_count (sheet_graph b) ≡ edges_in b
  edges_head = edges_sized b sized

  pub ends_within : ends_at e + 4 ≤ length b
  ends_within = omega (arith, sized, edges_head)

  pub weight_within : weight_at (edge_count (sheet_graph b)) e + 4 ≤ length b
  weight_within = omega (arith, sized, edges_head)

  pub edge_at_lem : edge_at (sheet_graph b) e ≡ edge_in b e
  unfolding sheet_graph
  edge_at_lem = get_or_map_below (edge_in b) no_edge (edges_held b) e (omega (arith, held b))

  pub one_end_at : one_end (sheet_graph b) e ≡ u16_at b (ends_at e)
  unfolding edge_in
  one_end_at = ap (λ (x : Edge). x.one) edge_at_lem

  pub other_end_at : other_end (sheet_graph b) e ≡ u16_at b (ends_at e + 2)
  unfolding edge_in
  other_end_at = ap (λ (x : Edge). x.other) edge_at_lem

  pub weight_at_lem : (m : ℕ) → m ≡ edge_count (sheet_graph b) → weight_of (sheet_graph b) e ≡ u32_at b (weight_at m e)
  unfolding edge_in
  weight_at_lem m q = ap (λ (x : Edge). x.weight) edge_at_lem ∙ ap (λ (k : ℕ). u32_at b (weight_at k e)) (sym (q ∙ edges_head))

-- Past the last edge of any graph there is none.
pub edge_past : (g : Graph) (e : ℕ) → edge_count g ≤ e → edge_at g e ≡ no_edge
edge_past g e h = get_or-eq_default g.edges _ h

-- So the ends of such a number are one vertex.
pub past_ends : (g : Graph) {e : ℕ} → edge_count g ≤ e → one_end g e ≡ other_end g e
past_ends g {e} h = ap (λ (x : Edge). x.one) (edge_past g e h) ∙ sym (ap (λ (x : Edge). x.other) (edge_past g e h))

-- And what holds of each edge, and of none, holds of the edge of every number.
pub edge_cases : (P : Edge → Type 0) (g : Graph) (e : ℕ) → (e < edge_count g → P (edge_at g e))
    → P no_edge → P (edge_at g e)
edge_cases P g e f z =
    dite (dec_lt e (edge_count g)) f (λ h. subst P (sym (edge_past g e (omega arith))) z)
