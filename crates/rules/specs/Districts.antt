-- The starred rows of document 01's "Small districts", computed from the definitions.
-- Assumes nothing.
use Rattle.std.specs.Prelude.{ℕ, ◌≡◌, refl}
use mathlib.Core.List.{List, [], ◌∷◌, map, head_d}
use Rattle.rules.specs.Cover.{Tree}
use Rattle.rules.specs.RootedTrial.{Choices}
use Rattle.rules.specs.Reply.{Reply, covered, too_low_stop, too_low_parts, too_low_needs, no_cover, Verdict, yes, number}
use Rattle.rules.specs.Questions.{Question, question, yards, roving, least_room, ask_trial, ask_best, ask_check}
use Rattle.lists.specs.Count as Count
use Rattle.lists.specs.Lists as Lists
use Rattle.lists.specs.Sort as Sort
use Rattle.graph.specs.Surface as Surface
use Rattle.graph.specs.Bytes as Bytes
use Rattle.graph_check.specs.Check as Check
use Rattle.matching.specs.Assignable as Assignable
use Rattle.rules.specs.Walk as Walk
use Rattle.rules.specs.Cover as Cover
use Rattle.rules.specs.CoverBytes as CoverBytes
use Rattle.rules.specs.Order as Order
use Rattle.rules.specs.Labels as Labels
use Rattle.rules.specs.Forest as Forest
use Rattle.rules.specs.Grow as Grow
use Rattle.rules.specs.Split as Split
use Rattle.rules.specs.Distance as Distance
use Rattle.rules.specs.RootedTrial as RootedTrial
use Rattle.rules.specs.UnrootedTrial as UnrootedTrial
use Rattle.rules.specs.Search as Search
use Rattle.graph.specs.Fault as Fault
use Rattle.rules.specs.CheckCover as CheckCover
use Rattle.rules.specs.Questions as Questions

-- "Sheet N: n = 4; line 0 joins 0-2 weight 3, line 1 joins 2-3 weight 3, line 2 joins 1-3 weight 5."
unfoldable pub N : List ℕ
N = 4 ∷ 0 ∷ 3 ∷ 0 ∷ 0 ∷ 0 ∷ 2 ∷ 0 ∷ 2 ∷ 0 ∷ 3 ∷ 0 ∷ 1 ∷ 0 ∷ 3 ∷ 0 ∷ 3 ∷ 0 ∷ 0 ∷ 0 ∷ 3 ∷ 0 ∷ 0 ∷ 0 ∷ 5 ∷ 0 ∷ 0 ∷ 0 ∷ []

-- n vertices and no edge.
unfoldable pub bare : ℕ → List ℕ
bare n = n ∷ 0 ∷ 0 ∷ 0 ∷ []

-- A tree by its start and its edges.
unfoldable pub tree : ℕ → List ℕ → Tree
tree v es = record { start = v; edges = es }

-- The choices: none to make; the parts' roots, with paths of no edge; a set of parts.
unfoldable pub nothing : Choices
nothing = record { assignment = []; paths = []; marks = [] }

unfoldable pub assigned : List ℕ → Choices
assigned rs = record { assignment = rs; paths = []; marks = [] }

unfoldable pub set : List ℕ → Choices
set ms = record { assignment = []; paths = []; marks = ms }

-- What is asked, with the free choices made, and an answer.
pub data Asked : Type 0 where
  trial : Question → (limit : ℕ) → Choices → Asked
  best : Question → Choices → Asked
  check : Question → (cover : List ℕ) → Asked

pub data Answer : Type 0 where
  reply : Reply → Answer
  verdict : Verdict → Answer

-- What the definitions answer, with a buffer that is just long enough. To unfold it is to unfold them all.
unfoldable pub answer : Asked → Answer
unfolding head_d
    Count.count Count.any_below Count.from Count.below
    Lists.filter Lists.any Lists.all Lists.first_that Lists.flat Lists.sum_of Lists.largest Lists.member Lists.without
    Sort.insert_by Sort.sort_by Sort.rise
    Bytes.u16_at Bytes.u32_at Bytes.edge_in Bytes.edges_held Bytes.sheet_graph Bytes.graph_of
    Surface.percent_of Surface.adjusted Surface.class_at Surface.surfaced Check.edge_fault Check.edges_fault Check.head_fault Check.check_of
    Assignable.assignable
    Walk.total_weight Cover.tree_weight Cover.heaviest
    CoverBytes.tree_in CoverBytes.decode
    Order.comes_before Order.ordered Order.light
    Labels.joined Labels.ends_joined Labels.apart Labels.together Labels.merge Labels.merge_edge Labels.merge_all
    Forest.keep Forest.forest Forest.labels_at Forest.unjoined Forest.lowest
    Grow.branch_edges Grow.far_end Grow.leads_on Grow.grow_children Grow.grow_node Grow.grow_from Grow.grow
    Split.reaches Split.part_at Split.smallest_edge Split.settle Split.split_at Split.split Split.all_parts
    Distance.nearer Distance.further Distance.relaxed Distance.distances_in Distance.distances Distance.is_within Distance.tree_vertices
    Distance.reaches_part
    RootedTrial.unjoined_at RootedTrial.rooted_pieces RootedTrial.rooted_parts RootedTrial.part_of RootedTrial.may_go RootedTrial.is_assignable
    RootedTrial.union_tree RootedTrial.assigned_edges RootedTrial.left_at RootedTrial.rooted_cover RootedTrial.chosen_parts RootedTrial.stop_or
    RootedTrial.rooted_trial
    UnrootedTrial.components UnrootedTrial.needs UnrootedTrial.needed UnrootedTrial.leftovers UnrootedTrial.from_lowest
    UnrootedTrial.component_trees UnrootedTrial.starts_before UnrootedTrial.unrooted_trees UnrootedTrial.unrooted_trial
    Search.no_vertex Search.accepts Search.trial Search.no_cover_exists Search.narrowed Search.searched Search.best_limit Search.best
    Fault.fault_if Fault.fault_unless Fault.first_fault Fault.refused_or
    CheckCover.starts_right CheckCover.starts_below CheckCover.entry_rises CheckCover.entry_right CheckCover.entries_right CheckCover.loop_free
    CheckCover.all_joined CheckCover.trees_right CheckCover.vertices_covered CheckCover.cover_fault
    Questions.number_in Questions.sheet_fault Questions.class_fault Questions.adjusted_fault Questions.surface_fault Questions.too_many_roots Questions.crew_fault Questions.van_fault
    Questions.limit_fault Questions.room_fault Questions.question_fault Questions.trial_fault Questions.ask_trial Questions.best_fault Questions.ask_best
    Questions.check_fault Questions.ask_check
answer (trial q limit c) = reply (ask_trial q limit least_room c)
answer (best q c) = reply (ask_best q least_room c)
answer (check q cover) = verdict (ask_check q cover)

-- A row: what is asked, and the answer that the documents give.
pub record Row : Type 0 where
  pub asked : Asked
  pub expected : Answer

unfoldable pub row : Asked → Answer → Row
row q a = record { asked = q; expected = a }

-- Every row's question has the answer that is expected of it.
abbrev pub AsExpected : List Row → Type 0
AsExpected rows = map (λ (r : Row). answer r.asked) rows ≡ map (λ (r : Row). r.expected) rows

-- The rows, in document 01's order.
unfoldable pub rows : List Row
rows =
    row (trial (question yards 2 N) 0 nothing) (reply (too_low_stop 2))
    ∷ row (trial (question yards 2 N) 2 nothing) (reply (too_low_stop 2))
    ∷ row (trial (question yards 2 N) 3 (set (1 ∷ 1 ∷ []))) (reply (too_low_parts 2 1 (tree 0 (0 ∷ []) ∷ tree 2 (1 ∷ []) ∷ [])))
    ∷ row (trial (question yards 2 N) 4 (assigned (0 ∷ []))) (reply (covered 4 6 (tree 0 (0 ∷ 1 ∷ []) ∷ tree 1 [] ∷ [])))
    ∷ row (trial (question yards 2 N) 7 nothing) (reply (covered 7 6 (tree 0 (0 ∷ 1 ∷ []) ∷ tree 1 [] ∷ [])))
    ∷ row (best (question yards 2 N) (assigned (0 ∷ []))) (reply (covered 4 6 (tree 0 (0 ∷ 1 ∷ []) ∷ tree 1 [] ∷ [])))
    ∷ row (trial (question roving 2 N) 3 nothing) (reply (too_low_needs 3))
    ∷ row (trial (question roving 3 N) 3 nothing) (reply (covered 3 6 (tree 0 (0 ∷ 1 ∷ []) ∷ tree 1 [] ∷ [])))
    ∷ row (trial (question roving 1 N) 5 nothing) (reply (too_low_needs 2))
    ∷ row (best (question roving 1 N) nothing) (reply (covered 6 11 (tree 0 (0 ∷ 1 ∷ 2 ∷ []) ∷ [])))
    ∷ row (trial (question roving 3 N) 0 nothing) (reply (too_low_needs 4))
    ∷ row (trial (question roving 4 N) 0 nothing) (reply (covered 0 0 (tree 0 [] ∷ tree 1 [] ∷ tree 2 [] ∷ tree 3 [] ∷ [])))
    ∷ row (trial (question yards 1 (bare 1)) 0 nothing) (reply (covered 0 0 (tree 0 [] ∷ [])))
    ∷ row (trial (question roving 1 (bare 1)) 0 nothing) (reply (covered 0 0 (tree 0 [] ∷ [])))
    ∷ row (best (question yards 1 (bare 2)) nothing) (reply no_cover)
    ∷ row (best (question roving 1 (bare 2)) nothing) (reply no_cover)
    -- entries (tree, edge): (0,0)(0,1), then (0,0)(1,1)
    ∷ row (check (question yards 2 N) (2 ∷ 0 ∷ 2 ∷ 0 ∷ 0 ∷ 0 ∷ 1 ∷ 0 ∷ 0 ∷ 0 ∷ 0 ∷ 0 ∷ 0 ∷ 0 ∷ 1 ∷ 0 ∷ [])) (verdict (yes 6))
    ∷ row (check (question yards 2 N) (2 ∷ 0 ∷ 2 ∷ 0 ∷ 0 ∷ 0 ∷ 1 ∷ 0 ∷ 0 ∷ 0 ∷ 1 ∷ 0 ∷ 0 ∷ 0 ∷ 1 ∷ 0 ∷ [])) (verdict (number 34))
    ∷ []

pub starred_rows : AsExpected rows
unfolding N bare tree nothing assigned set answer row rows
starred_rows = refl
