-- The check of a graph's bytes (document 01, "Who causes which number", the sheet's maker): 11 to 16, in 01's order.
-- Assumes nothing.
use Rattle.std.specs.Prelude.{ℕ, not, ◌||◌, List, [], ◌∷◌, map, length, eqb, leb, ltb, Result, Ok, Err}
use Rattle.graph.specs.Graph.{Edge, Graph, edge_count}
use Rattle.graph.specs.Bytes.{vertices_in, edges_in, length_for, sheet_graph}
use Rattle.graph.specs.Fault.{Fault, fault_if, first_fault, refused_or}
use Rattle.graph_check.specs.declared.Cause.{Cause}
use Rattle.graph_check.specs.declared.Cause.TheVariants.{Length, Vertices, Edges, End, Loop, Weight}

-- What the check answers: yes, with how many vertices and edges there are, or document 01's number.
pub data Answer : Type 0 where
  yes : ℕ → ℕ → Answer
  number : ℕ → Answer

-- Document 01's number of each cause.
abbrev pub number_of : Cause → ℕ
number_of Length = 11
number_of Vertices = 12
number_of Edges = 13
number_of End = 14
number_of Loop = 15
number_of Weight = 16

-- What the code's answer says.
abbrev pub says : Result (ℕ × ℕ) Cause → Answer
says (Ok (n, m)) = yes n m
says (Err f) = number (number_of f)

-- One edge ("line") among n vertices: 14 an end not below n, 15 equal ends, 16 weight above 1,000,000.
unfoldable pub edge_fault : ℕ → Edge → Fault
edge_fault n e =
    first_fault
    (fault_if (leb n e.one || leb n e.other) 14
    ∷ fault_if (eqb e.one e.other) 15
    ∷ fault_if (ltb 1000000 e.weight) 16
    ∷ [])

-- Edge by edge.
unfoldable pub edges_fault : ℕ → List Edge → Fault
edges_fault n es = first_fault (map (edge_fault n) es)

-- The head: 11 length below 4 or not 4 + 8m, 12 n is 0 or above 256, 13 m above 2,048.
unfoldable pub head_fault : List ℕ → Fault
head_fault b =
    let n = vertices_in b in
    let m = edges_in b in
    first_fault
    (fault_if (ltb (length b) 4 || not (eqb (length b) (length_for m))) 11
    ∷ fault_if (eqb n 0 || ltb 256 n) 12
    ∷ fault_if (ltb 2048 m) 13
    ∷ [])

-- A fault's number, or yes with the counts.
abbrev pub answer_to : Graph → Fault → Answer
answer_to g fault = refused_or number fault (yes g.vertices (edge_count g))

-- All edges of a graph.
abbrev pub check_all : Graph → Answer
check_all g = answer_to g (edges_fault g.vertices g.edges)

-- The bytes: the head, then edge by edge.
unfoldable pub check_of : List ℕ → Answer
check_of b = let g = sheet_graph b in answer_to g (first_fault (head_fault b ∷ edges_fault g.vertices g.edges ∷ []))
