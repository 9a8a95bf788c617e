-- The arcs of a vertex are its edges: each arc is an edge to its head, of its weight, and each edge of the vertex is one of its arcs.
-- Assumes nothing.
use Prim.Native.Nat.{ℕ, ◌+◌, ◌<◌}
use mathlib.Core.Path.{◌≡◌, sym, ap, ◌∙◌}
use mathlib.Core.Bool.{true}
use mathlib.Core.List.{List}
use native.Mathlib.Omega.{arith}
use lib.ListN.{get_or}
use Rattle.lists.specs.Count.{below}
use Rattle.lists.specs.Lists.{filter}
use Rattle.lists.specs.Member.{◌∈◌}
use Rattle.lists.specs.Segments.{segment}
use Rattle.lists.proofs.Below.{of_below, in_below}
use Rattle.lists.proofs.Member.{in_filter, of_filter, in_map, of_map}
use Rattle.lists.proofs.SlicePlaces.{in_slice, of_slice}
use Rattle.graph.specs.Graph.{Graph, edge_count, weight_of}
use Rattle.rules.specs.Walk.{Joins}
use Rattle.rules.proofs.FarEnd.{far_end_lem, joins_far, end_test}
use Rattle.rules.specs.Grow.{touches}
use Rattle.edges.specs.Around.{arc_of, arc_edge, arc_head, arc_weight, arcs_at, Around}
use Rattle.distance.specs.Relaxing.{ArcAt}
use Rattle.edges.proofs.Arcs.{arc_edge_lem, valid_arc_head, valid_arc_weight}

-- What an arc of u says of the graph.
pub record IsEdge (g : Graph) (u a : ℕ) : Type 0 where
  pub inside : arc_edge a < edge_count g
  pub joins : Joins g (arc_edge a) u (arc_head a)
  pub weighs : arc_weight a ≡ weight_of g (arc_edge a)

-- The arc that says so of an edge from u to v.
pub record HasArc (g : Graph) (bounds arcs : List ℕ) (e u v : ℕ) : Type 0 where
  pub arc : ℕ
  pub at : ArcAt bounds arcs u arc
  pub head : arc_head arc ≡ v
  pub weighs : arc_weight arc ≡ weight_of g e

module _ {g : Graph} {bounds arcs : List ℕ} (around : Around g (below (edge_count g)) bounds arcs) {u : ℕ} (vertex : u < g.vertices) where
  -- The arc of an edge that touches u.
  arc_is_edge : {e a : ℕ} → e < edge_count g → touches g u e ≡ true → a ≡ arc_of g u e → IsEdge g u a
  unfolding touches
  arc_is_edge {e} h t q =
      let fits : e < 65536 = omega (arith, around.valid.edges_most) in
      let edge = ap arc_edge q ∙ arc_edge_lem g u e fits in
      let head = ap arc_head q ∙ valid_arc_head around.valid u e fits in
      let weight = ap arc_weight q ∙ valid_arc_weight around.valid u e fits in
      record { inside = rw edge h; joins = rw (edge, head) (joins_far e u t); weighs = rw edge weight }

  -- Each arc of u is an edge.
  pub arc_edges : {a : ℕ} → ArcAt bounds arcs u a → IsEdge g u a
  unfolding segment arcs_at
  arc_edges i =
      let stands = rw (around.are u vertex, sym i.is) at (in_slice arcs 0 (get_or bounds u 0) i.place (get_or bounds (u + 1) 0) i.from i.to (around.sound.within (u + 1) (omega arith))) in
      let (e, m, q) = of_map (arc_of g u) (filter (touches g u) (below (edge_count g))) stands in
      let (k, t) = of_filter (touches g u) (below (edge_count g)) m in
      arc_is_edge (of_below (edge_count g) k) t q

  -- Each edge from u is an arc of u.
  pub edge_arcs : {e v : ℕ} → e < edge_count g → Joins g e u v → HasArc g bounds arcs e u v
  unfolding segment arcs_at touches
  edge_arcs {e} h j =
      let fits : e < 65536 = omega (arith, around.valid.edges_most) in
      let stands : arc_of g u e ∈ arcs_at g (below (edge_count g)) u = in_map (arc_of g u) (in_filter (touches g u) (in_below (edge_count g) h) (end_test j)) in
      let there : arc_of g u e ∈ segment bounds arcs u = rw (around.are u vertex) stands in
      let (i, from, to, q) = of_slice arcs 0 (get_or bounds u 0) (get_or bounds (u + 1) 0) (around.sound.within (u + 1) (omega arith)) there in
      record {
        arc = arc_of g u e;
        at = record { place = i; from = from; to = to; is = sym q };
        head = valid_arc_head around.valid u e fits ∙ far_end_lem j;
        weighs = valid_arc_weight around.valid u e fits;
      }
