-- The questions, from bytes to replies, with every number of document 01's "Who causes which number", and of document 02's lists beside a sheet,
-- "tried in the order listed".
-- Assumes nothing.
use Rattle.std.specs.Prelude.{ℕ, ◌*◌, Bool, false, cond, not, ◌&&◌, ◌||◌, List, [], ◌∷◌, ◌++◌, map, length, drop, leb, ltb, eqb}
use Rattle.std.proofs.Math.Option.{Option, some, none}
use Rattle.lists.specs.Count.{below, any_below}
use Rattle.lists.specs.Lists.{all}
use Rattle.graph.specs.Graph.{Graph, edge_count, weight_of}
use Rattle.graph.specs.Bytes.{u16_at, u32_at, sheet_graph, graph_of}
use Rattle.graph.specs.Fault.{Fault, fault_if, fault_unless, first_fault, refused_or}
use Rattle.graph_check.specs.Check as sheet
use Rattle.rules.specs.Cover.{Crews, rooted, unrooted, heaviest}
use Rattle.rules.specs.CoverBytes.{encode, decode}
use Rattle.rules.specs.CheckCover.{cover_fault}
use Rattle.rules.specs.Reply.{Verdict, yes, number, Reply, refused, covered, too_low_stop, too_low_parts, too_low_needs, no_cover}
use Rattle.rules.specs.RootedTrial.{Choices}
use Rattle.rules.specs.Search.{trial, best}
use Rattle.rules.specs.FewTrials.{Told, before_trials, within}

-- What a check of a graph's bytes refuses.
unfoldable pub number_in : sheet.Answer → Fault
number_in (sheet.yes n m) = none
number_in (sheet.number k) = some k

-- "The sheet's maker": 11 to 16.
unfoldable pub sheet_fault : List ℕ → Fault
sheet_fault b = number_in (sheet.check_of b)

-- 22: "B above 2,048,000,000 (trial)".
abbrev pub most_limit : ℕ
most_limit = 2048000000

unfoldable pub limit_fault : ℕ → Fault
limit_fault limit = fault_if (ltb most_limit limit) 22

-- 23: "buffer below 32,708 bytes (trial, best)".
abbrev pub least_room : ℕ
least_room = 32708

unfoldable pub room_fault : ℕ → Fault
room_fault room = fault_if (ltb room least_room) 23

-- 56 (document 02, A.6): "p below 2 or above 33".
abbrev pub most_trials : ℕ
most_trials = 33

unfoldable pub trials_fault : ℕ → Fault
trials_fault p = fault_if (ltb p 2 || ltb most_trials p) 56

-- A "yard" question, whose crews have a root each, or a "roving" one.
pub data Kind : Type 0 where
  yards : Kind
  roving : Kind

-- What every question about a graph brings. (Document 02, A.3: "Let a question carry m class bytes beside the sheet." A.5: "A yard question now carries k
-- stop numbers of 2 bytes, repeats allowed".)
pub record Question : Type 0 where
  pub kind : Kind
  pub k : ℕ
  pub sheet : List ℕ
  pub classes : Option (List ℕ)
  pub vans : Option (List ℕ)

-- A question without lists.
abbrev pub question : Kind → ℕ → List ℕ → Question
question kind k sheet = record { kind = kind; k = k; sheet = sheet; classes = none; vans = none }

-- The bytes of a list, none where it is not brought.
abbrev pub listed : Option (List ℕ) → List ℕ
listed none = []
listed (some list) = list

-- The graph that it is about.
abbrev pub graph_in : Question → Graph
graph_in q = graph_of q.sheet (listed q.classes)

-- Where k crews with roots start (document 02, A.5): "tree j starts at the j-th" of the list; "callers without a list mean 0 to k - 1".
abbrev pub roots_by : ℕ → Option (List ℕ) → List ℕ
roots_by k none = below k
roots_by k (some vans) = map (λ j. u16_at vans (2 * j)) (below k)

-- Whom a cover is for. Only a "yard" question carries a list of vans: beside a "roving" one it is not read.
abbrev pub crews_by : Kind → ℕ → Option (List ℕ) → Crews
crews_by yards k vans = rooted (roots_by k vans)
crews_by roving k vans = unrooted k

abbrev pub crews_in : Question → Crews
crews_in q = crews_by q.kind q.k q.vans

-- 53 (document 02, A.3): "not exactly m class bytes", where a list is brought.
unfoldable pub class_fault : Option (List ℕ) → ℕ → Fault
class_fault none m = none
class_fault (some classes) m = fault_unless (eqb (length classes) m) 53

-- 54: "an adjusted weight above 1,000,000".
unfoldable pub adjusted_fault : Graph → Fault
adjusted_fault g = fault_if (any_below (edge_count g) (λ e. ltb 1000000 (weight_of g e))) 54

-- Both, each over the whole list before the next.
unfoldable pub surface_fault : List ℕ → Option (List ℕ) → Fault
surface_fault sheet classes = first_fault (class_fault classes (edge_count (sheet_graph sheet)) ∷ adjusted_fault (graph_of sheet (listed classes)) ∷ [])

-- Crews with roots 0 to k - 1 are more than the n vertices: "With a list, the clause of 21 about n ends".
unfoldable pub too_many_roots : Kind → ℕ → Option (List ℕ) → ℕ → Bool
too_many_roots yards k none n = ltb n k
too_many_roots yards k (some vans) n = false
too_many_roots roving k vans n = false

-- 21: "k outside 1 to 32, or above n in a yard question".
unfoldable pub crew_fault : Kind → ℕ → Option (List ℕ) → ℕ → Fault
crew_fault kind k vans n = fault_if (ltb k 1 || (ltb 32 k || too_many_roots kind k vans n)) 21

-- 55 (document 02, A.5): "list not 2k bytes or a stop not below n".
unfoldable pub van_fault : Kind → ℕ → Option (List ℕ) → ℕ → Fault
van_fault yards k none n = none
van_fault yards k (some vans) n = fault_unless (eqb (length vans) (2 * k) && all (λ root. ltb root n) (roots_by k (some vans))) 55
van_fault roving k vans n = none

-- What is refused of every question, in document 01's order; 53 and 54 come "after 16, before 21", and 55 "straight after 21".
unfoldable pub question_fault : Question → Fault
question_fault q =
    let n = (graph_in q).vertices in
    first_fault
    (sheet_fault q.sheet
    ∷ surface_fault q.sheet q.classes
    ∷ crew_fault q.kind q.k q.vans n
    ∷ van_fault q.kind q.k q.vans n
    ∷ [])

-- The trial question, at a limit and with a buffer of so many bytes: what is refused of it, and the reply.
unfoldable pub trial_fault : Question → ℕ → ℕ → Fault
trial_fault q limit room = first_fault (question_fault q ∷ limit_fault limit ∷ room_fault room ∷ [])

unfoldable pub ask_trial : Question → ℕ → ℕ → Choices → Reply
ask_trial q limit room c =
    let answer = trial (graph_in q) (crews_in q) limit c in
    refused_or refused (trial_fault q limit room) answer

-- The best-limit question.
unfoldable pub best_fault : Question → ℕ → Fault
best_fault q room = first_fault (question_fault q ∷ room_fault room ∷ [])

unfoldable pub ask_best : Question → ℕ → Choices → Reply
ask_best q room c =
    let answer = best (graph_in q) (crews_in q) c in
    refused_or refused (best_fault q room) answer

-- The best-limit question with p trials. 56 is "last of the planner's numbers".
unfoldable pub within_fault : Question → ℕ → ℕ → Fault
within_fault q p room = first_fault (question_fault q ∷ room_fault room ∷ trials_fault p ∷ [])

unfoldable pub ask_within : Question → ℕ → ℕ → Choices → Told
ask_within q p room c =
    let answer = within (graph_in q) (crews_in q) p c in
    refused_or (λ n. before_trials (refused n)) (within_fault q p room) answer

-- The check of a filed cover's bytes.
unfoldable pub check_fault : Question → List ℕ → Fault
check_fault q cover = first_fault (question_fault q ∷ cover_fault (graph_in q) (crews_in q) cover ∷ [])

unfoldable pub ask_check : Question → List ℕ → Verdict
ask_check q cover = refused_or number (check_fault q cover) (yes (heaviest (graph_in q) (decode cover)))

-- What a reply writes: "the cover, or the T parts, fill the buffer's first bytes"; the others write nothing.
unfoldable pub written : Reply → List ℕ
written (refused k) = []
written (covered limit heaviest trees) = encode trees
written (too_low_stop v) = []
written (too_low_parts T D parts) = encode parts
written (too_low_needs C) = []
written no_cover = []

-- The buffer afterwards: "the rest is untouched".
unfoldable pub buffer_after : Reply → List ℕ → List ℕ
buffer_after reply buffer = written reply ++ drop (length (written reply)) buffer

-- The fields of the program's question (document 01, "The program `rounds`"): "question (2 bytes), k (2), B (4, unread in 3 and 4), sheet".
abbrev pub asked_in : List ℕ → ℕ
asked_in input = u16_at input 0

abbrev pub crew_count_in : List ℕ → ℕ
crew_count_in input = u16_at input 2

abbrev pub limit_in : List ℕ → ℕ
limit_in input = u32_at input 4

abbrev pub sheet_in : List ℕ → List ℕ
sheet_in input = drop 8 input

-- 41: "input below 8 or above 16,396 bytes, or an unknown question".
unfoldable pub unknown : List ℕ → Bool
unknown input = ltb (length input) 8 || (ltb 16396 (length input) || not (leb 1 (asked_in input) && leb (asked_in input) 4))

-- The program's question: "1 yard trial, 2 roving trial, 3 yard best, 4 roving best".
unfoldable pub kind_in : ℕ → Kind
kind_in asked = cond (eqb asked 1 || eqb asked 3) yards roving

unfoldable pub is_trial : ℕ → Bool
is_trial asked = eqb asked 1 || eqb asked 2

abbrev pub question_in : List ℕ → Question
question_in input = question (kind_in (asked_in input)) (crew_count_in input) (sheet_in input)

-- The reply to a known question.
unfoldable pub ask_known : Bool → Question → ℕ → ℕ → Choices → Reply
ask_known trial q limit room c = cond trial (ask_trial q limit room c) (ask_best q room c)

-- The reply to the program's question. 41 is "tried first".
unfoldable pub ask_rounds : List ℕ → Choices → Reply
ask_rounds input c = cond (unknown input) (refused 41) (ask_known (is_trial (asked_in input)) (question_in input) (limit_in input) least_room c)
