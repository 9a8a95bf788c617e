-- Document 01's numbers begin at 11: so does whatever is refused of a graph's bytes, and of every question.
-- Assumes nothing.
use Prim.Native.Nat.{ℕ, ◌≤◌}
use mathlib.Core.Path.{◌≡◌, refl, sym, ◌∙◌}
use mathlib.Core.Bool.{Bool, true, false}
use mathlib.Core.List.{List, [], ◌∷◌, map}
use mathlib.Core.Option.{Option, some, none, none-ne-some}
use native.Mathlib.Omega.{arith}
use Rattle.graph.specs.Graph.{Edge}
use Rattle.graph.specs.Bytes.{sheet_graph}
use Rattle.graph.specs.Fault.{Fault, fault_if, fault_unless, first_fault, refused_or}
use Rattle.graph_check.specs.Check.{yes, number, edge_fault, edges_fault, head_fault, check_of}
use Rattle.rules.specs.Questions.{number_in, sheet_fault, class_fault, adjusted_fault, surface_fault, Kind, yards, roving, crew_fault, van_fault, Question, question_fault}

abbrev pub Numbered : Fault → Type 0
Numbered f = (k : ℕ) → f ≡ some k → 11 ≤ k

pub if_numbered : (test : Bool) (n : ℕ) → 11 ≤ n → Numbered (fault_if test n)
unfolding fault_if
if_numbered true n h k q = let e : n ≡ k = cc in omega arith
if_numbered false n h k q = absurd (none-ne-some k q)

pub unless_numbered : (test : Bool) (n : ℕ) → 11 ≤ n → Numbered (fault_unless test n)
unfolding fault_unless
unless_numbered true n h k q = absurd (none-ne-some k q)
unless_numbered false n h k q = let e : n ≡ k = cc in omega arith

-- The first of none, and of one more.
pub first_none : Numbered (first_fault [])
unfolding first_fault
first_none k q = absurd (none-ne-some k q)

pub first_next : (f : Fault) (fs : List Fault) → Numbered f → Numbered (first_fault fs) → Numbered (first_fault (f ∷ fs))
unfolding first_fault
first_next (some n) fs h later = h
first_next none fs h later = later

-- The faults of a graph's bytes: of an edge, of all edges, of the head, and of the whole.
edge_numbered : (n : ℕ) (e : Edge) → Numbered (edge_fault n e)
unfolding edge_fault
edge_numbered n e =
    first_next _ _ (if_numbered _ _ (omega arith)) (first_next _ _ (if_numbered _ _ (omega arith)) (first_next _ _ (if_numbered _ _ (omega arith)) first_none))

edges_numbered : (n : ℕ) (es : List Edge) → Numbered (edges_fault n es)
unfolding edges_fault
edges_numbered n [] = first_none
edges_numbered n (e ∷ es) = first_next (edge_fault n e) (map (edge_fault n) es) (edge_numbered n e) (edges_numbered n es)

head_numbered : (b : List ℕ) → Numbered (head_fault b)
unfolding head_fault
head_numbered b =
    first_next _ _ (if_numbered _ _ (omega arith)) (first_next _ _ (if_numbered _ _ (omega arith)) (first_next _ _ (if_numbered _ _ (omega arith)) first_none))

number_back : (f : Fault) (n m : ℕ) → number_in (refused_or number f (yes n m)) ≡ f
unfolding number_in refused_or
number_back (some k) n m = refl
number_back none n m = refl

sheet_numbered : (b : List ℕ) → Numbered (sheet_fault b)
unfolding sheet_fault check_of
sheet_numbered b k q =
    let edges = edges_fault (sheet_graph b).vertices (sheet_graph b).edges in
    let whole : Numbered (first_fault (head_fault b ∷ edges ∷ [])) =
    first_next (head_fault b) (edges ∷ []) (head_numbered b) (first_next edges [] (edges_numbered (sheet_graph b).vertices (sheet_graph b).edges) first_none) in
    whole k (sym (number_back (first_fault (head_fault b ∷ edges ∷ [])) _ _) ∙ q)

-- The fault of a class list, and of the weights by it.
class_numbered : (classes : Option (List ℕ)) (m : ℕ) → Numbered (class_fault classes m)
unfolding class_fault
class_numbered none m = λ k q. absurd (none-ne-some k q)
class_numbered (some classes) m = unless_numbered _ _ (omega arith)

surface_numbered : (sheet : List ℕ) (classes : Option (List ℕ)) → Numbered (surface_fault sheet classes)
unfolding surface_fault adjusted_fault
surface_numbered sheet classes = first_next _ _ (class_numbered classes _) (first_next _ _ (if_numbered _ _ (omega arith)) first_none)

-- The fault of a list of vans.
van_numbered : (kind : Kind) (k : ℕ) (vans : Option (List ℕ)) (n : ℕ) → Numbered (van_fault kind k vans n)
unfolding van_fault
van_numbered yards k none n = λ k q. absurd (none-ne-some k q)
van_numbered yards k (some vans) n = unless_numbered _ _ (omega arith)
van_numbered roving k vans n = λ k q. absurd (none-ne-some k q)

-- What is refused of every question.
pub question_numbered : (q : Question) → Numbered (question_fault q)
unfolding question_fault crew_fault
question_numbered q =
    first_next _ _ (sheet_numbered q.sheet)
    (first_next _ _ (surface_numbered q.sheet q.classes)
    (first_next _ _ (if_numbered _ _ (omega arith)) (first_next _ _ (van_numbered q.kind q.k q.vans _) first_none)))
