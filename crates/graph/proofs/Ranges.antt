-- Of a valid graph every edge number, past the last edge too, has vertices as its ends and a weight within the range.
-- So a caller that reads an edge may use its ends as indices without showing that there is such an edge.
-- Assumes nothing.
use Prim.Native.Nat.{ℕ, zero-le, ◌≤◌, ◌<◌}
use Rattle.graph.specs.Graph.{Edge, Graph, one_end, other_end, weight_of}
use Rattle.graph.specs.Valid.{Valid}
use Rattle.graph.proofs.Decoded.{edge_cases}

module _ {g : Graph} (v : Valid g) (e : ℕ) where
  pub one_end_below : one_end g e < g.vertices
  one_end_below = edge_cases (λ (x : Edge). x.one < g.vertices) g e (λ h. (v.each_edge e h).one_end) v.vertices_some

  pub other_end_below : other_end g e < g.vertices
  other_end_below = edge_cases (λ (x : Edge). x.other < g.vertices) g e (λ h. (v.each_edge e h).other_end) v.vertices_some

  pub weight_at_most : weight_of g e ≤ 1000000
  weight_at_most = edge_cases (λ (x : Edge). x.weight ≤ 1000000) g e (λ h. (v.each_edge e h).weight_most) zero-le
