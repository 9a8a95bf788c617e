-- The closed walk along a tree: it begins and ends at the start, crosses each edge of the tree exactly twice and no other, is twice as long as the tree is
-- heavy, and has two stops for each edge and one more, at most 511, at the vertices that the tree covers. Each of its turns adds one stop; after them
-- nothing is left, so that more turns change nothing.
-- Assumes nothing.
use Prim.Native.Nat.{ℕ, zero, suc, ◌+◌, ◌*◌, ◌≤◌, ◌<◌}
use mathlib.Core.Path.{◌≡◌, refl, sym, ap, ◌∙◌}
use mathlib.Core.Bool.{true, false}
use mathlib.Core.List.Memᴰ
use mathlib.Core.List.{List, [], ◌∷◌, ◌++◌}
use mathlib.Core.Logic.{◌↔◌, ◌⊎◌, inl, inr, dite}
use mathlib.Core.Option.{none}
use native.Mathlib.Decide.{ℕ_discrete}
use native.Mathlib.Numerals.{add-one}
use native.Mathlib.Omega.{arith}
use lib.ListN.{length, length-append, drop_of_length-le}
use Rattle.lists.specs.Lists.{member, times}
use Rattle.lists.specs.Member.{◌∈◌}
use Rattle.lists.proofs.Member.{either, member_in, member_out}
use Rattle.lists.proofs.InOrder.{rising_once}
use Rattle.lists.proofs.Lengths.{within_whole}
use Rattle.lists.proofs.Sums.{sum_append}
use Rattle.lists.proofs.SameTimes.{same_sum}
use Rattle.lists.proofs.Times.{times_none, times_append, in_times, times_in, not_in_times, once_times}
use Rattle.graph.specs.Graph.{Graph, one_end, other_end, weight_of}
use Rattle.graph.specs.Valid.{Valid}
use Rattle.rules.specs.Walk.{onward, back, Walk, stay, total_weight}
use Rattle.rules.specs.Cover.{Tree, IsTree, Covers, at_start, at_one_end, at_other_end, tree_weight}
use Rattle.rules.specs.Grow.{far_end}
use Rattle.rules.specs.ClosedWalk.{stops_from, stops_of, length_of, Underway, next_edge, crossed, homeward, turn_by, turn, after_turns, closed_walk}
use Rattle.rules.proofs.Linked.{linked_more}
use Rattle.rules.proofs.WalkStops.{stops_length, first_stop, walk_last, stops_more, passed_linked, joined_passed}
use Rattle.forest_laws.proofs.FewForest.{loopless_few}
use Rattle.forest_laws.proofs.UnionTree.{linked_covered}
use Rattle.cover_laws.proofs.Turns.{Turned, turned, went_on, went_back, stood}
use Rattle.cover_laws.proofs.NextEdge.{none_next}
use Rattle.cover_laws.proofs.TurnsReached.{Reached, reached, walked_few, whole_turns}

-- The walk has ended: it is at the start, has no way back, and has crossed every edge of the tree.
pub record Ended (g : Graph) (t : Tree) (s : Underway) : Type 0 where
  pub at_start : s.stop ≡ t.start
  pub no_way : s.way ≡ []
  pub walked_all : (e : ℕ) → e ∈ t.edges → e ∈ s.crossings
  pub nothing_left : next_edge g t s.stop s.crossings ≡ none

module _ {g : Graph} {t : Tree} (tree : IsTree g t) where
  -- a turn crosses an edge, as long as there were fewer crossings than two for each edge,
  turn_crosses : (i : ℕ) → length (after_turns g t i).crossings < 2 * length t.edges
      → (e : ℕ) × (way : List ℕ) × (after_turns g t (suc i) ≡ crossed g (after_turns g t i) e way)
  unfolding after_turns
  turn_crosses i few = go (turned g t (after_turns g t i))
    where
      go : {there : Underway} → Turned g t (after_turns g t i) there → (e : ℕ) × (way : List ℕ) × (there ≡ crossed g (after_turns g t i) e way)
      go (went_on e q) = (e, e ∷ (after_turns g t i).way, refl)
      go (went_back e way q w) = (e, way, refl)
      go (stood q w) = absurd (omega (arith, whole_turns g t tree (reached g t i) q w))

  -- so that each of the turns adds a crossing
  turns_length : (i : ℕ) → i ≤ 2 * length t.edges → length (after_turns g t i).crossings ≡ i
  unfolding after_turns crossed
  turns_length zero few = refl
  turns_length (suc i) few =
      let before = turns_length i (omega arith) in
      let (e, way, q) = turn_crosses i (omega arith) in
      ap (λ (s : Underway). length s.crossings) q ∙ omega (arith, length-append (after_turns g t i).crossings (e ∷ []))

  -- and a stop.
  pub one_stop : (i : ℕ) → i < 2 * length t.edges
      → stops_from g t.start (after_turns g t (i + 1)).crossings ≡ stops_from g t.start (after_turns g t i).crossings ++ ((after_turns g t (i + 1)).stop ∷ [])
  unfolding crossed
  one_stop i few =
      let (e, way, q) = turn_crosses i (omega (arith, turns_length i (omega arith))) in
      rw (add-one, q, ← ap (far_end g e) (walk_last (reached g t i).led)) (stops_more g t.start (after_turns g t i).crossings e)

  -- where the walk is after two turns for each edge
  last : Underway
  last = after_turns g t (2 * length t.edges)

  at_last : Reached g t last
  unfolding last
  at_last = reached g t (2 * length t.edges)

  last_length : length last.crossings ≡ 2 * length t.edges
  unfolding last
  last_length = turns_length (2 * length t.edges) (omega arith)

  no_way : last.way ≡ []
  no_way = drop_of_length-le last.way {i = 0} (omega (arith, at_last.turns, last_length, walked_few g t at_last))

  all_walked : (e : ℕ) → e ∈ t.edges → e ∈ at_last.walked
  all_walked = within_whole at_last.once at_last.of_tree (omega (arith, at_last.turns, last_length))

  home : Walk g [] last.stop t.start → last.stop ≡ t.start
  home (stay q) = q

  -- Then it has ended.
  pub closed_walk_ended : Ended g t (after_turns g t (2 * length t.edges))
  unfolding last
  closed_walk_ended =
      let all : (e : ℕ) → e ∈ t.edges → e ∈ last.crossings = λ e m. at_last.was_crossed e (all_walked e m) in
      record {
        at_start = home (rw no_way at at_last.back);
        no_way = no_way;
        walked_all = all;
        nothing_left = none_next g t last.stop last.crossings all;
      }

  -- More turns change nothing.
  stays : (n : ℕ) → 2 * length t.edges ≤ n → after_turns g t n ≡ after_turns g t (2 * length t.edges)
  unfolding after_turns turn turn_by homeward
  stays zero most = let none_there : 0 ≡ 2 * length t.edges = omega arith in ap (after_turns g t) none_there
  stays (suc n) most =
      dite (ℕ_discrete (suc n) (2 * length t.edges))
      (λ q. ap (after_turns g t) q)
      (λ later. ap (turn g t) (stays n (omega arith)) ∙ rw (closed_walk_ended.nothing_left, closed_walk_ended.no_way))

  pub closed_walk_turns : (n : ℕ) → 2 * length t.edges ≤ n → (after_turns g t n).crossings ≡ (closed_walk g t).crossings
  unfolding closed_walk
  closed_walk_turns n most = ap (λ (s : Underway). s.crossings) (stays n most)

  -- It begins and ends at the start.
  pub closed_walk_closed : Walk g (closed_walk g t).crossings t.start t.start
  unfolding closed_walk last
  closed_walk_closed = rw closed_walk_ended.at_start at at_last.led

  -- Each edge is crossed twice as often as it stands in the tree:
  pub crossed_times : (e : ℕ) → times e (closed_walk g t).crossings ≡ 2 * times e t.edges
  unfolding closed_walk last
  crossed_times e = omega (arith, at_last.twice e, ap (times e) no_way, times_none e, same (either (member e t.edges)))
    where
      same : (member e t.edges ≡ true) ⊎ (member e t.edges ≡ false) → times e at_last.walked ≡ times e t.edges
      same (inl p) =
          let m = member_in e t.edges p in
          omega (arith, in_times m, once_times (rising_once tree.rising) e, in_times (all_walked e m), once_times at_last.once e)
      same (inr p) =
          let out : e ∈ t.edges → ⊥ = member_out e t.edges (rw p) in
          not_in_times e at_last.walked (λ m. out (at_last.of_tree e m)) ∙ sym (not_in_times e t.edges out)

  -- exactly twice where it is an edge of the tree, so that each is crossed,
  pub each_twice : (e : ℕ) → e ∈ t.edges → times e (closed_walk g t).crossings ≡ 2
  each_twice e m = omega (arith, crossed_times e, in_times m, once_times (rising_once tree.rising) e)

  pub crosses_each : (e : ℕ) → e ∈ t.edges → e ∈ (closed_walk g t).crossings
  crosses_each e m = times_in e (closed_walk g t).crossings (omega (arith, each_twice e m))

  -- and no other.
  pub crossed_of_tree : (e : ℕ) → e ∈ (closed_walk g t).crossings → e ∈ t.edges
  crossed_of_tree e m = times_in e t.edges (omega (arith, crossed_times e, in_times m))

  -- "The walk's length is twice the tree's weight."
  pub closed_walk_length : length_of g (closed_walk g t) ≡ 2 * tree_weight g t
  unfolding length_of tree_weight total_weight
  closed_walk_length =
      omega (
        arith,
        same_sum (weight_of g) (closed_walk g t).crossings (t.edges ++ t.edges) (λ e. omega (arith, crossed_times e, times_append e t.edges t.edges)),
        sum_append (weight_of g) t.edges t.edges,
      )

  -- Two stops for each edge, and one more,
  pub closed_walk_stops : length (stops_of g (closed_walk g t)) ≡ 2 * length t.edges + 1
  unfolding stops_of closed_walk last
  closed_walk_stops = omega (arith, stops_length g t.start last.crossings, last_length)

  -- "at most 511 of them".
  pub closed_walk_few : Valid g → length (stops_of g (closed_walk g t)) ≤ 511
  closed_walk_few valid = omega (arith, closed_walk_stops, valid.vertices_most, loopless_few valid (rising_once tree.rising) tree.no_loop)

  -- It passes the vertices that the tree covers, and no other.
  pub walk_passes : (v : ℕ) → (v ∈ stops_of g (closed_walk g t)) ↔ Covers g t v
  unfolding stops_of closed_walk
  walk_passes v = (λ m. linked_covered t (linked_more crossed_of_tree (passed_linked closed_walk_closed m)), passed)
    where
      passed : Covers g t v → v ∈ stops_of g (closed_walk g t)
      passed (at_start q) = Memᴰ.cast q (first_stop g t.start (closed_walk g t).crossings)
      passed (at_one_end e m q) = joined_passed {a = other_end g e} closed_walk_closed (crosses_each e m) (back refl q)
      passed (at_other_end e m q) = joined_passed {a = one_end g e} closed_walk_closed (crosses_each e m) (onward refl q)
