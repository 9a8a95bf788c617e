-- The check says yes exactly to graphs: where it says yes the bytes are a valid graph's and the counts are that graph's, and to every
-- valid graph's bytes it says yes.
-- Assumes nothing.
use Prim.Native.Nat.{ℕ, zero, suc, ◌+◌, ◌<◌}
use mathlib.Core.Path.{◌≡◌, refl, sym, ap, ◌∙◌}
use mathlib.Core.Logic.{◌↔◌}
use mathlib.Core.Bool.{Bool, false, not, ◌||◌}
use mathlib.Core.List.Memᴰ
use mathlib.Core.List.{List}
use mathlib.Core.Option.{some, none}
use native.Mathlib.Omega.{arith}
use lib.ListN.{length}
use lib.Dec.{ltb, leb, eqb}
use borrow.Author.Tests.{ltb-false, leb-false, eqb-true, eqb-false, not-false}
use Rattle.lists.proofs.Every.{first_false, second_false}
use Rattle.lists.proofs.Member.{in_map}
use Rattle.lists.proofs.Places.{at_place}
use Rattle.graph.specs.Graph.{Edge, Graph, edge_count, no_edge, edge_at}
use Rattle.graph.specs.Bytes.{vertices_in, edges_in, length_for, sheet_graph}
use Rattle.graph.specs.Fault.{Fault, fault_if, refused_or}
use Rattle.graph.specs.Valid.{ValidEdge, IsGraph, Counted}
use Rattle.graph.proofs.Decoded.{vertices_head, edges_sized}
use Rattle.graph.proofs.Faults.{quiet_if, quiet_each}
use Rattle.graph_check.specs.Check.{yes, edge_fault, edges_fault, head_fault, answer_to, check_of}
use Rattle.graph_check.proofs.Steps.{fault_from, fault_later, fault_done, edge_passed, head_passed, edges_decide}

-- Where a test by `||` refuses nothing, both say no.
quiet_both : (s t : Bool) (k : ℕ) → fault_if (s || t) k ≡ none → (s ≡ false) × (t ≡ false)
quiet_both s t k q = let r = quiet_if (s || t) k q in (first_false s t r, second_false s t r)

-- An edge without fault is valid.
edge_valid : (n : ℕ) (x : Edge) → edge_fault n x ≡ none → ValidEdge n x
unfolding edge_fault
edge_valid n x q =
    let ends = quiet_both (leb n x.one) (leb n x.other) 14 (quiet_each _ q (Memᴰ.head refl)) in
    let loop = quiet_if (eqb x.one x.other) 15 (quiet_each _ q (Memᴰ.tail (Memᴰ.head refl))) in
    let range = quiet_if (ltb 1000000 x.weight) 16 (quiet_each _ q (Memᴰ.tail (Memᴰ.tail (Memᴰ.head refl)))) in
    record {
      one_end = leb-false n x.one ends.0;
      other_end = leb-false n x.other ends.1;
      no_loop = eqb-false x.one x.other loop;
      weight_most = ltb-false 1000000 x.weight range;
    }

-- The edges of a graph have no fault exactly where each is valid.
module _ (g : Graph) where
  edges_valid : fault_from g 0 ≡ none → (e : ℕ) → e < edge_count g → ValidEdge g.vertices (edge_at g e)
  unfolding edges_fault
  edges_valid q e h = edge_valid g.vertices (edge_at g e) (quiet_each _ q (in_map (edge_fault g.vertices) (at_place no_edge g.edges e h)))

  valid_none : ((e : ℕ) → e < edge_count g → ValidEdge g.vertices (edge_at g e)) → (k e : ℕ) → k + e ≡ edge_count g → fault_from g e ≡ none
  valid_none v zero e q = fault_done g e (omega arith)
  valid_none v (suc k) e q =
      fault_later g e (omega arith) (edge_passed g.vertices (edge_at g e) (v e (omega arith)))
      ∙ valid_none v k (e + 1) (omega arith)

-- An answer is yes exactly where there is no fault, with the graph's counts.
no_fault : (g : Graph) (f : Fault) {n m : ℕ} → answer_to g f ≡ yes n m → (f ≡ none) × (yes g.vertices (edge_count g) ≡ yes n m)
unfolding refused_or
no_fault g none q = (refl, q)
no_fault g (some k) q = let z : ◌≡◌ {A = ℕ} 0 1 = cc in absurd (omega arith)

module _ (b : List ℕ) where
  abbrev g : Graph
  g = sheet_graph b

  -- To a graph's bytes the check says yes, with the graph's counts.
  pub graph_yes : IsGraph b → check_of b ≡ yes g.vertices (edge_count g)
  unfolding refused_or
  graph_yes h =
      let v = h.valid in
      let n = vertices_head b in
      let m = edges_sized b h.sized in
      sym (edges_decide b (head_passed b h.sized (omega arith) (omega arith) (omega arith)))
      ∙ ap (answer_to g) (valid_none g v.each_edge (edge_count g) 0 (omega arith))

  -- What the check says yes to is a graph's bytes, of the counts that it says.
  pub yes_graph : {n m : ℕ} → check_of b ≡ yes n m → Counted b n m
  unfolding check_of head_fault
  yes_graph {n} {m} q =
      let (none_at_all, counts) = no_fault g _ q in
      let head = quiet_each _ none_at_all (Memᴰ.head refl) in
      let edges_none = quiet_each _ none_at_all (Memᴰ.tail (Memᴰ.head refl)) in
      let size = quiet_both (ltb (length b) 4) (not (eqb (length b) (length_for (edges_in b)))) 11 (quiet_each _ head (Memᴰ.head refl)) in
      let vertices = quiet_both (eqb (vertices_in b) 0) (ltb 256 (vertices_in b)) 12 (quiet_each _ head (Memᴰ.tail (Memᴰ.head refl))) in
      let edges = quiet_if (ltb 2048 (edges_in b)) 13 (quiet_each _ head (Memᴰ.tail (Memᴰ.tail (Memᴰ.head refl)))) in
      let s = eqb-true (length b) (length_for (edges_in b)) (not-false _ size.1) in
      record {
        graph =
            record {
              sized = s;
              valid =
                  record {
                    vertices_some = omega (arith, vertices_head b, eqb-false (vertices_in b) 0 vertices.0);
                    vertices_most = omega (arith, vertices_head b, ltb-false 256 (vertices_in b) vertices.1);
                    edges_most = omega (arith, edges_sized b s, ltb-false 2048 (edges_in b) edges);
                    each_edge = edges_valid g edges_none;
                  };
            };
        vertices_are = cc;
        edges_are = cc;
      }

  -- The check says yes exactly to graphs, with their counts.
  pub check_exactly : (n m : ℕ) → (check_of b ≡ yes n m) ↔ Counted b n m
  check_exactly n m = (yes_graph, λ (k : Counted b n m). graph_yes k.graph ∙ cc)
