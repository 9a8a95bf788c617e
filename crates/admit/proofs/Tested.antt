-- The tests of what every question brings, in the order of document 01: what each makes of what is refused.
-- Assumes nothing.
use Prim.Native.Nat.{ℕ}
use mathlib.Core.Path.{◌≡◌, sym, ◌∙◌}
use mathlib.Core.List.{List, [], ◌∷◌}
use mathlib.Core.Option.{some, none}
use lib.ListN.{length}
use borrow.Author.Tests.{eq-eqb, ne_eqb}
use Rattle.graph.specs.Graph.{edge_count}
use Rattle.graph.specs.Bytes.{sheet_graph, graph_of}
use Rattle.graph.specs.Fault.{Fault, fault_unless, first_fault}
use Rattle.graph.specs.Valid.{Valid}
use Rattle.graph.proofs.Faults.{one_fault}
use Rattle.graph.proofs.Surfaced.{vertices_sheet, plain_graph}
use Rattle.graph_check.specs.Check as sheet
use Rattle.graph_check.proofs.Exactly.{yes_graph}
use Rattle.rules.specs.Questions.{Question, listed, graph_in, number_in, sheet_fault, class_fault, adjusted_fault, surface_fault, crew_fault, van_fault, question_fault}
use Rattle.rules.proofs.Surfaces.{each_light}

-- The class list beside a sheet: without one nothing is refused of a sheet that passed its check;
module _ (sheet : List ℕ) where
  pub unlisted : Valid (sheet_graph sheet) → none ≡ surface_fault sheet none
  unfolding surface_fault class_fault first_fault
  unlisted valid = rw (plain_graph sheet, each_light (sheet_graph sheet) (λ i h. (valid.each_edge i h).weight_most))

  -- with one its length, 53, and then the weights, 54, decide.
  module _ (classes : List ℕ) where
    pub count_refused : (length classes ≡ edge_count (sheet_graph sheet) → ⊥) → some 53 ≡ surface_fault sheet (some classes)
    unfolding surface_fault class_fault fault_unless first_fault
    count_refused d = rw (ne_eqb (length classes) (edge_count (sheet_graph sheet)) d)

    pub weights_decide : length classes ≡ edge_count (sheet_graph sheet) → {f : Fault} → adjusted_fault (graph_of sheet classes) ≡ f → f ≡ surface_fault sheet (some classes)
    unfolding surface_fault class_fault fault_unless first_fault
    weights_decide l {f} p = sym (one_fault f) ∙ rw (eq-eqb (length classes) (edge_count (sheet_graph sheet)) l, p)

-- All that is tested.
module _ (q : Question) where
  -- The graph's bytes, 11 to 16,
  pub sheet_refused : {number : ℕ} → sheet.check_of q.sheet ≡ sheet.number number → some number ≡ question_fault q
  unfolding question_fault sheet_fault number_in first_fault
  sheet_refused e = rw e

  -- What is refused of the crews, on n vertices.
  abbrev crew_faults : ℕ → List Fault
  crew_faults n = crew_fault q.kind q.k q.vans n ∷ van_fault q.kind q.k q.vans n ∷ []

  module _ {n m : ℕ} (passed : sheet.check_of q.sheet ≡ sheet.yes n m) where
    -- then the class list, 53 and 54,
    lists_decide : {f : Fault} → f ≡ surface_fault q.sheet q.classes → first_fault (f ∷ crew_faults (graph_in q).vertices) ≡ question_fault q
    unfolding question_fault sheet_fault number_in first_fault
    lists_decide e = rw (passed, ← e)

    pub lists_refused : {number : ℕ} → some number ≡ surface_fault q.sheet q.classes → some number ≡ question_fault q
    unfolding first_fault
    lists_refused e = lists_decide e

    -- then the crews, 21 and 55.
    pub crews_decide : {f : Fault} → none ≡ surface_fault q.sheet q.classes → f ≡ first_fault (crew_faults n) → f ≡ question_fault q
    unfolding first_fault
    crews_decide {f} p e = rw (e, passed_vertices) (lists_decide p)
      where
        passed_vertices : n ≡ (graph_in q).vertices
        passed_vertices = (yes_graph q.sheet passed).vertices_are ∙ sym (vertices_sheet q.sheet (listed q.classes))
