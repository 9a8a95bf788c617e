-- A graph with its weights by class: counts and ends are the graph's own, the weights are adjusted, and without a class list it is the graph itself.
-- Assumes nothing.
use Prim.Native.Nat.{ℕ, zero, suc, ◌≤◌, ◌<◌}
use mathlib.Core.Path.{◌≡◌, refl, sym, ap, ◌∙◌}
use mathlib.Core.Logic.{dite}
use mathlib.Core.List.{List, [], ◌∷◌}
use native.Mathlib.Decide.{dec_lt}
use native.Mathlib.Omega.{arith}
use lib.ListN.{length, get_or, get_or-eq_default}
use Rattle.lists.proofs.Runs.{length_map_below, get_or_map_below, map_below}
use Rattle.graph.specs.Graph.{Edge, Graph, edge_count, no_edge, edge_at, one_end, other_end, weight_of}
use Rattle.graph.specs.Surface.{percent_of, adjusted, class_at, with_class, surfaced}
use Rattle.graph.specs.Bytes.{sheet_graph, graph_of}
use Rattle.graph.specs.Valid.{Valid}
use Rattle.graph.proofs.Adjusted.{adjusted_most, adjusted_same}
use Rattle.graph.proofs.Decoded.{edge_past}

-- Past the list's end a class counts 100 percent, so that the weight stays.
pub past_same : (weight : ℕ) (classes : List ℕ) (e : ℕ) → length classes ≤ e → adjusted weight (class_at classes e) ≡ weight
unfolding class_at percent_of
past_same weight classes e h = rw (get_or-eq_default classes 60 h) (adjusted_same weight 60 refl)

-- Within the list the class is the byte that stands there.
pub class_within : (classes : List ℕ) (e : ℕ) → e < length classes → class_at classes e ≡ get_or classes e 0
unfolding class_at
class_within [] e h = absurd (omega arith)
class_within (c ∷ classes) zero h = refl
class_within (c ∷ classes) (suc e) h = class_within classes e (omega arith)

module _ (g : Graph) (classes : List ℕ) where
  pub vertices_same : (surfaced g classes).vertices ≡ g.vertices
  unfolding surfaced
  vertices_same = refl

  pub edge_count_same : edge_count (surfaced g classes) ≡ edge_count g
  unfolding surfaced
  edge_count_same = length_map_below (λ e. with_class (edge_at g e) (class_at classes e)) (edge_count g)

  -- No edge weighs nothing, whatever its class.
  none_same : (class : ℕ) → with_class no_edge class ≡ no_edge
  none_same class = ap (λ (w : ℕ). record { one = 0; other = 0; weight = w }) (omega (arith, adjusted_most 0 class))

  -- The edge of every number, past the last edge too, is the graph's with its weight by class.
  pub edge_surfaced : (e : ℕ) → edge_at (surfaced g classes) e ≡ with_class (edge_at g e) (class_at classes e)
  unfolding surfaced
  edge_surfaced e =
      dite (dec_lt e (edge_count g)) (λ h. get_or_map_below (λ e. with_class (edge_at g e) (class_at classes e)) no_edge (edge_count g) e h)
      (λ h. edge_past (surfaced g classes) e (omega (arith, edge_count_same)) ∙ sym (none_same (class_at classes e))
      ∙ ap (λ (x : Edge). with_class x (class_at classes e)) (sym (edge_past g e (omega arith))))

  pub one_end_same : (e : ℕ) → one_end (surfaced g classes) e ≡ one_end g e
  one_end_same e = ap (λ (x : Edge). x.one) (edge_surfaced e)

  pub other_end_same : (e : ℕ) → other_end (surfaced g classes) e ≡ other_end g e
  other_end_same e = ap (λ (x : Edge). x.other) (edge_surfaced e)

  pub weight_adjusted : (e : ℕ) → weight_of (surfaced g classes) e ≡ adjusted (weight_of g e) (class_at classes e)
  weight_adjusted e = ap (λ (x : Edge). x.weight) (edge_surfaced e)

  -- It is valid where no weight is too large.
  pub surfaced_valid : Valid g → ((e : ℕ) → e < edge_count (surfaced g classes) → weight_of (surfaced g classes) e ≤ 1000000) → Valid (surfaced g classes)
  surfaced_valid v most =
      record {
        vertices_some = rw vertices_same v.vertices_some;
        vertices_most = rw vertices_same v.vertices_most;
        edges_most = rw edge_count_same v.edges_most;
        each_edge = λ e h.
            let l : e < edge_count g = omega (arith, edge_count_same) in
            let x = v.each_edge e l in
            record {
              one_end = rw (vertices_same, one_end_same e) x.one_end;
              other_end = rw (vertices_same, other_end_same e) x.other_end;
              no_loop = rw (one_end_same e, other_end_same e) x.no_loop;
              weight_most = most e h;
            };
      }

-- Without a class list the graph is as it was.
plain_same : (g : Graph) → surfaced g [] ≡ g
unfolding surfaced
plain_same g =
    ap (λ (es : List Edge). record { vertices = g.vertices; edges = es }) (map_below (λ e. with_class (edge_at g e) (class_at [] e)) no_edge g.edges
    (λ e h. ap (λ (w : ℕ). record { one = one_end g e; other = other_end g e; weight = w }) (past_same (weight_of g e) [] e (omega arith))))

-- The graph that a sheet and its classes spell: counts and ends are the sheet's.
module _ (b classes : List ℕ) where
  pub vertices_sheet : (graph_of b classes).vertices ≡ (sheet_graph b).vertices
  unfolding graph_of
  vertices_sheet = vertices_same (sheet_graph b) classes

  pub edge_count_sheet : edge_count (graph_of b classes) ≡ edge_count (sheet_graph b)
  unfolding graph_of
  edge_count_sheet = edge_count_same (sheet_graph b) classes

  pub one_end_sheet : (e : ℕ) → one_end (graph_of b classes) e ≡ one_end (sheet_graph b) e
  unfolding graph_of
  one_end_sheet = one_end_same (sheet_graph b) classes

  pub other_end_sheet : (e : ℕ) → other_end (graph_of b classes) e ≡ other_end (sheet_graph b) e
  unfolding graph_of
  other_end_sheet = other_end_same (sheet_graph b) classes

  pub weight_by_class : (e : ℕ) → weight_of (graph_of b classes) e ≡ adjusted (weight_of (sheet_graph b) e) (class_at classes e)
  unfolding graph_of
  weight_by_class = weight_adjusted (sheet_graph b) classes

-- Without a class list it is the sheet's own graph.
pub plain_graph : (b : List ℕ) → graph_of b [] ≡ sheet_graph b
unfolding graph_of
plain_graph b = plain_same (sheet_graph b)
