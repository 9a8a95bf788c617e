-- The check, test by test: what each fault makes of it, and what is left of it where a test is passed.
-- Assumes nothing.
use Prim.Native.Nat.{ℕ, ◌+◌, ◌≤◌, ◌<◌}
use mathlib.Core.Path.{◌≡◌, sym, ap, ◌∙◌}
use mathlib.Core.Bool.{true, false, or-true}
use mathlib.Core.List.{List, ◌∷◌, map}
use mathlib.Core.Option.{some, none}
use native.Mathlib.Numerals.{add-one}
use native.Mathlib.Omega.{arith}
use lib.ListN.{length, drop, drop_of_length-le}
use lib.Seq.{drop-cons}
use lib.Dec.{ltb, eqb}
use borrow.Author.Tests.{lt-ltb, le-ltb, le-leb, lt-leb, eq-eqb, ne_eqb}
use Rattle.graph.specs.Graph.{Edge, Graph, edge_count, no_edge, edge_at}
use Rattle.graph.specs.Bytes.{vertices_in, edges_in, length_for, sheet_graph}
use Rattle.graph.specs.Fault.{Fault, fault_if, first_fault, refused_or}
use Rattle.graph.specs.Valid.{ValidEdge}
use Rattle.graph.proofs.Faults.{one_fault}
use Rattle.graph_check.specs.Check.{number, edge_fault, edges_fault, head_fault, answer_to, check_all, check_of}

-- One edge among n vertices.
module _ (n : ℕ) (x : Edge) where
  pub one_end_refused : n ≤ x.one → edge_fault n x ≡ some 14
  unfolding edge_fault fault_if first_fault
  one_end_refused h = simp (le-leb n x.one h)

  pub other_end_refused : n ≤ x.other → edge_fault n x ≡ some 14
  unfolding edge_fault fault_if first_fault
  other_end_refused h = simp (le-leb n x.other h, or-true)

  module _ (h : x.one < n) (k : x.other < n) where
    pub loop_refused : x.one ≡ x.other → edge_fault n x ≡ some 15
    unfolding edge_fault fault_if first_fault
    loop_refused q = simp (lt-leb n x.one h, lt-leb n x.other k, eq-eqb x.one x.other q)

    module _ (d : x.one ≡ x.other → ⊥) where
      pub weight_over_refused : 1000000 < x.weight → edge_fault n x ≡ some 16
      unfolding edge_fault fault_if first_fault
      weight_over_refused q =
          simp (
            lt-leb n x.one h,
            lt-leb n x.other k,
            ne_eqb x.one x.other d,
            lt-ltb 1000000 x.weight q,
          )

  pub edge_passed : ValidEdge n x → edge_fault n x ≡ none
  unfolding edge_fault fault_if first_fault
  edge_passed v =
      simp (
        lt-leb n x.one v.one_end,
        lt-leb n x.other v.other_end,
        ne_eqb x.one x.other v.no_loop,
        le-ltb 1000000 x.weight v.weight_most,
      )

-- What is left of the check of a graph's edges, from edge e on.
abbrev pub fault_from : Graph → ℕ → Fault
fault_from g e = edges_fault g.vertices (drop e g.edges)

module _ (g : Graph) (e : ℕ) where
  -- this edge, then those behind it
  fault_next : e < edge_count g → fault_from g e ≡ first_fault (edge_fault g.vertices (edge_at g e) ∷ map (edge_fault g.vertices) (drop (e + 1) g.edges))
  unfolding edges_fault
  fault_next h = rw (add-one, drop-cons g.edges e no_edge)

  module _ (h : e < edge_count g) where
    pub fault_here : {k : ℕ} → edge_fault g.vertices (edge_at g e) ≡ some k → fault_from g e ≡ some k
    unfolding first_fault
    fault_here q = fault_next h ∙ rw q

    pub fault_later : edge_fault g.vertices (edge_at g e) ≡ none → fault_from g e ≡ fault_from g (e + 1)
    unfolding edges_fault first_fault
    fault_later q = fault_next h ∙ rw q

  pub fault_done : edge_count g ≤ e → fault_from g e ≡ none
  unfolding edges_fault first_fault
  fault_done h = rw (drop_of_length-le g.edges h)

-- The tests before the edges, with n vertices and m edges as the head says.
module _ (b : List ℕ) where
  abbrev n : ℕ
  n = vertices_in b

  abbrev m : ℕ
  m = edges_in b

  pub short_refused : length b < 4 → head_fault b ≡ some 11
  unfolding head_fault fault_if first_fault
  short_refused h = simp (lt-ltb (length b) 4 h)

  pub length_refused : (length b ≡ length_for m → ⊥) → head_fault b ≡ some 11
  unfolding head_fault fault_if first_fault
  length_refused d = simp (ne_eqb (length b) (length_for m) d, or-true)

  module _ (s : length b ≡ length_for m) where
    long : ltb (length b) 4 ≡ false
    long = le-ltb (length b) 4 (omega arith)

    fits : eqb (length b) (length_for m) ≡ true
    fits = eq-eqb (length b) (length_for m) s

    pub vertices_none_refused : n ≡ 0 → head_fault b ≡ some 12
    unfolding head_fault fault_if first_fault
    vertices_none_refused q = simp (long, fits, eq-eqb n 0 q)

    pub vertices_over_refused : 256 < n → head_fault b ≡ some 12
    unfolding head_fault fault_if first_fault
    vertices_over_refused h = simp (long, fits, lt-ltb 256 n h, or-true)

    module _ (d : n ≡ 0 → ⊥) (l : n ≤ 256) where
      pub edges_over_refused : 2048 < m → head_fault b ≡ some 13
      unfolding head_fault fault_if first_fault
      edges_over_refused h = simp (long, fits, ne_eqb n 0 d, le-ltb 256 n l, lt-ltb 2048 m h)

      pub head_passed : m ≤ 2048 → head_fault b ≡ none
      unfolding head_fault fault_if first_fault
      head_passed h = simp (long, fits, ne_eqb n 0 d, le-ltb 256 n l, le-ltb 2048 m h)

  -- The head's fault is the answer, and where it has none the edges decide.
  pub head_decides : {k : ℕ} → head_fault b ≡ some k → number k ≡ check_of b
  unfolding check_of first_fault refused_or
  head_decides q = rw q

  pub edges_decide : head_fault b ≡ none → check_all (sheet_graph b) ≡ check_of b
  unfolding check_of first_fault
  edges_decide q = rw q (ap (answer_to (sheet_graph b)) (sym (one_fault (edges_fault (sheet_graph b).vertices (sheet_graph b).edges))))
