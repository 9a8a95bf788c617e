-- Weights by class (document 02, A.3) are not refused exactly where none is above 1,000,000; and without a class list a question is what it was without
-- the request: about the sheet's own graph, and refused as before.
-- Assumes nothing.
use Prim.Native.Nat.{ℕ, ◌≤◌, ◌<◌}
use mathlib.Core.Path.{◌≡◌, refl, sym, ◌∙◌}
use mathlib.Core.Bool.{Bool, true, false, true≢false}
use mathlib.Core.List.Memᴰ
use mathlib.Core.List.{List, [], ◌∷◌}
use mathlib.Core.Option.{some, none}
use lib.Dec.{ltb}
use borrow.Author.Tests.{ltb-false, le-ltb, lt-ltb}
use Rattle.lists.proofs.AnyBelow.{found_any_below, none_any_below}
use Rattle.graph.specs.Graph.{Graph, edge_count, weight_of}
use Rattle.graph.specs.Bytes.{sheet_graph}
use Rattle.graph.specs.Fault.{Fault, fault_if, fault_unless, first_fault, refused_or}
use Rattle.graph.proofs.Faults.{quiet_if, quiet_each}
use Rattle.graph.proofs.Surfaced.{plain_graph}
use Rattle.rules.specs.Cover.{Crews, heaviest}
use Rattle.rules.specs.CoverBytes.{trees_in, tree_in, decode}
use Rattle.rules.specs.CheckCover.{cover_fault}
use Rattle.rules.specs.Reply.{yes, number, refused}
use Rattle.rules.specs.RootedTrial.{Choices}
use Rattle.rules.specs.Search.{trial, best}
use Rattle.rules.specs.Questions.{Kind, yards, roving, Question, question, graph_in, crews_by, sheet_fault, class_fault, adjusted_fault, surface_fault, crew_fault, van_fault, question_fault, limit_fault, room_fault, trial_fault, ask_trial, best_fault, ask_best, check_fault, ask_check}
use Rattle.rules.specs.ClosedWalk.{stops_of, length_of, closed_walk}
use Rattle.rules.specs.WalkQuestion as walks
use Rattle.rules.specs.WalkQuestion.{least_walk_room, walk_fault, ask_walk}
use Rattle.rules.proofs.SheetRight.{sheet_right}

module _ (g : Graph) where
  abbrev heavy : ℕ → Bool
  heavy e = ltb 1000000 (weight_of g e)

  pub light_each : adjusted_fault g ≡ none → (e : ℕ) → e < edge_count g → weight_of g e ≤ 1000000
  unfolding adjusted_fault
  light_each q e h = go (heavy e) refl
    where
      go : (is : Bool) → heavy e ≡ is → weight_of g e ≤ 1000000
      go true t = absurd (true≢false (sym (found_any_below heavy (edge_count g) h t) ∙ quiet_if _ 54 q))
      go false t = ltb-false 1000000 (weight_of g e) t

  pub each_light : ((e : ℕ) → e < edge_count g → weight_of g e ≤ 1000000) → adjusted_fault g ≡ none
  unfolding adjusted_fault fault_if
  each_light f = rw (none_any_below heavy (edge_count g) (λ e h. le-ltb 1000000 (weight_of g e) (f e h)))

  -- One that is heavier is refused.
  pub heavy_refused : {e : ℕ} → e < edge_count g → 1000000 < weight_of g e → adjusted_fault g ≡ some 54
  unfolding adjusted_fault fault_if
  heavy_refused {e} h l = rw (found_any_below heavy (edge_count g) h (lt-ltb 1000000 (weight_of g e) l))

-- So where nothing is refused of a class list, no weight of the question's graph is.
pub weights_light : (q : Question) → surface_fault q.sheet q.classes ≡ none → (e : ℕ) → e < edge_count (graph_in q) → weight_of (graph_in q) e ≤ 1000000
unfolding surface_fault
weights_light q none_refused = light_each (graph_in q) (quiet_each _ none_refused (Memᴰ.tail (Memᴰ.head refl)))

-- WITHOUT LISTS, what was asked before the request is answered as it was: about the sheet's own graph.

-- Nothing is refused of a list of vans that is not brought.
pub no_vans : (kind : Kind) (k n : ℕ) → van_fault kind k none n ≡ none
unfolding van_fault
no_vans yards k n = refl
no_vans roving k n = refl

-- Nothing refused last adds nothing.
none_last : (f : Fault) → first_fault (f ∷ none ∷ []) ≡ first_fault (f ∷ [])
unfolding first_fault
none_last (some n) = refl
none_last none = refl

module _ (kind : Kind) (k : ℕ) (sheet : List ℕ) where
  abbrev q : Question
  q = question kind k sheet

  abbrev g : Graph
  g = sheet_graph sheet

  abbrev crews : Crews
  crews = crews_by kind k none

  -- What is refused of every question: the sheet, 11 to 16, and the crews, 21.
  abbrev plain_fault : Fault
  plain_fault = first_fault (sheet_fault sheet ∷ crew_fault kind k none g.vertices ∷ [])

  pub plain_fault_lem : question_fault q ≡ plain_fault
  unfolding question_fault surface_fault class_fault first_fault
  plain_fault_lem = go (sheet_fault sheet) refl
    where
      go : (f : Fault) → sheet_fault sheet ≡ f → question_fault q ≡ first_fault (f ∷ crew_fault kind k none g.vertices ∷ [])
      go (some n) e = rw e
      go none e = rw (e, plain_graph sheet, each_light g (λ i h. (((sheet_right sheet).0 e).valid.each_edge i h).weight_most), no_vans kind k g.vertices) (none_last (crew_fault kind k none g.vertices))

  -- The replies.
  pub plain_trial : (limit room : ℕ) (c : Choices) → ask_trial q limit room c
      ≡ refused_or refused (first_fault (plain_fault ∷ limit_fault limit ∷ room_fault room ∷ [])) (trial g crews limit c)
  unfolding ask_trial trial_fault
  plain_trial limit room c = rw (plain_fault_lem, plain_graph sheet)

  pub plain_best : (room : ℕ) (c : Choices) → ask_best q room c ≡ refused_or refused (first_fault (plain_fault ∷ room_fault room ∷ [])) (best g crews c)
  unfolding ask_best best_fault
  plain_best room c = rw (plain_fault_lem, plain_graph sheet)

  abbrev plain_check_fault : List ℕ → Fault
  plain_check_fault cover = first_fault (plain_fault ∷ cover_fault g crews cover ∷ [])

  plain_check_fault_lem : (cover : List ℕ) → check_fault q cover ≡ plain_check_fault cover
  unfolding check_fault
  plain_check_fault_lem cover = rw (plain_fault_lem, plain_graph sheet)

  pub plain_check : (cover : List ℕ) → ask_check q cover ≡ refused_or number (plain_check_fault cover) (yes (heaviest g (decode cover)))
  unfolding ask_check
  plain_check cover = rw (plain_check_fault_lem cover, plain_graph sheet)

  pub plain_walk : (cover : List ℕ) (tree room : ℕ) → let walk = closed_walk g (tree_in cover tree) in ask_walk q cover tree room
      ≡ refused_or walks.refused (first_fault (plain_check_fault cover ∷ fault_unless (ltb tree (trees_in cover)) 51 ∷ fault_if (ltb room least_walk_room) 52 ∷ []))
      (walks.walks (stops_of g walk) (length_of g walk))
  unfolding ask_walk walk_fault
  plain_walk cover tree room = rw (plain_check_fault_lem cover, plain_graph sheet)
