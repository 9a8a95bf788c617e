-- The arrays after one turn: arcs passed over, an edge crossed onward, an edge crossed back.
-- Assumes nothing.
use Prim.Native.Nat.{ℕ, zero, suc, ◌+◌, ◌-◌, ◌≤◌, ◌<◌}
use mathlib.Core.Path.{◌≡◌, refl, sym, ap, subst, ◌∙◌}
use mathlib.Core.Bool.{true}
use mathlib.Core.List.Memᴰ
use mathlib.Core.List.{List, [], ◌∷◌, ◌++◌}
use mathlib.Core.Logic.{◌⊎◌, inl, inr}
use mathlib.Core.Option.{some, none}
use native.Mathlib.Numerals.{add-one}
use native.Mathlib.Omega.{arith}
use lib.ListN.{length, get_or, set, length-set}
use lib.Seq.{get_or-set_same, get_or-set_other}
use Rattle.lists.specs.Member.{◌∈◌}
use Rattle.lists.specs.Segments.{segment}
use Rattle.lists.proofs.AfterStore.{after_store}
use Rattle.lists.proofs.Member.{of_filter}
use Rattle.graph.specs.Graph.{Graph}
use Rattle.rules.specs.Walk.{Joins}
use Rattle.rules.specs.Cover.{Tree}
use Rattle.rules.specs.Grow.{far_end, touches}
use Rattle.rules.specs.ClosedWalk.{stops_from, Underway, next_edge, crossed, homeward, turn_by, turn, after_turns}
use Rattle.rules.proofs.Linked.{joins_back}
use Rattle.rules.proofs.FarEnd.{far_end_lem, joins_far}
use Rattle.cover_laws.proofs.TurnsReached.{way_walked}
use Rattle.edges.specs.Around.{arc_edge, arc_head}
use Rattle.edges.proofs.Arcs.{far_end_below}
use Rattle.closed_walk.specs.Turn.{NextPlace, edges_around, Walking}
use Rattle.closed_walk.proofs.NextFound.{at_stop, stop_vertex, as_many, edge_here, edge_fits, edge_of, head_of, all_passed, next_is, next_none}

module _ {g : Graph} {t : Tree} {s : Underway} {bounds arcs places marks way : List ℕ} {depth : ℕ} (w : Walking g t s bounds arcs places marks way depth) where
  -- Arcs of walked edges are passed over.
  passed_over : {around : List ℕ} (is : around ≡ segment bounds arcs s.stop) {at : ℕ} → NextPlace around marks (get_or places s.stop 0) at
      → Walking g t s bounds arcs (set places s.stop at) marks way depth
  passed_over is {at} n = record {
    around = w.around;
    places_room = length-set places s.stop at ∙ w.places_room;
    marks_room = w.marks_room;
    way_room = w.way_room;
    within = λ v h. after_store (λ v x. x ≤ length (edges_around g t v)) places s.stop at v room (omega (arith, n.within, as_many w is)) (λ away. w.within v h);
    passed = λ v i h.
        after_store (λ v x. i < x → get_or (edges_around g t v) i 0 ∈ s.crossings) places s.stop at v room (all_passed w is n i) (λ away. w.passed v i h);
    marked = w.marked;
    only_marked = w.only_marked;
    deep = w.deep;
    stack = w.stack;
    vertices = w.vertices;
  }
    where
      room : s.stop < length places
      room = omega (arith, stop_vertex w, w.around.valid.vertices_most, w.places_room)

  module _ {e : ℕ} (at_stop : touches g s.stop e ≡ true) (fits : e < 2048) (shallow : depth < 256) where
    joins : Joins g e s.stop (far_end g e s.stop)
    joins = unfold touches in joins_far e s.stop at_stop

    -- An edge is crossed onward: it is marked, and where it leads is the last stop of the way.
    crossed_on : {head : ℕ} → head ≡ far_end g e s.stop
        → Walking g t (crossed g s e (e ∷ s.way)) bounds arcs places (set marks e 1) (set way (depth + 1) head) (depth + 1)
    unfolding crossed stops_from
    crossed_on {head} there = record {
      around = w.around;
      places_room = w.places_room;
      marks_room = length-set marks e 1 ∙ w.marks_room;
      way_room = length-set way (depth + 1) head ∙ w.way_room;
      within = w.within;
      passed = λ v i h k. Memᴰ.append_left (e ∷ []) (w.passed v i h k);
      marked = λ f m. after_store (λ _ y. y ≡ 1) marks e 1 f marks_fit refl (λ away. old f away (Memᴰ.append_cases s.crossings m));
      only_marked = λ f.
          after_store (λ f y. y ≡ 1 → f ∈ (s.crossings ++ (e ∷ []))) marks e 1 f marks_fit (λ q. Memᴰ.append_right s.crossings (Memᴰ.head refl))
          (λ away q. Memᴰ.append_left (e ∷ []) (w.only_marked f q));
      deep = omega (arith, w.deep);
      stack = stacked;
      vertices = λ i h.
          after_store (λ _ x. x < g.vertices) way (depth + 1) head i way_fits (rw there (far_end_below w.around.valid s.stop e))
          (λ away. w.vertices i (omega arith));
    }
      where
        marks_fit : e < length marks
        marks_fit = omega (arith, w.marks_room)

        way_fits : depth + 1 < length way
        way_fits = omega (arith, w.way_room)

        old : (f : ℕ) → (f ≡ e → ⊥) → (f ∈ s.crossings) ⊎ (f ∈ (e ∷ [])) → get_or marks f 0 ≡ 1
        old f away (inl m) = w.marked f m
        old f away (inr m) = absurd (away (Memᴰ.eq_of_singleton m))

        stacked : (i : ℕ) → i ≤ depth + 1 → get_or (set way (depth + 1) head) (depth + 1 - i) 0 ≡ get_or (stops_from g (far_end g e s.stop) (e ∷ s.way)) i 0
        stacked zero h =
            let top : depth + 1 - 0 ≡ depth + 1 = omega arith in
            rw top (get_or-set_same way (depth + 1) head 0 way_fits ∙ there)
        stacked (suc i) h =
            let lower : depth + 1 - suc i ≡ depth - i = omega arith in
            rw (lower, far_end_lem (joins_back joins)) (get_or-set_other way (depth + 1) (depth - i) head 0 (λ q. omega arith) ∙ w.stack i (omega arith))

  -- The edge by which the stop was reached is crossed back.
  crossed_back : {e : ℕ} {rest : List ℕ} → s.way ≡ e ∷ rest → e ∈ s.crossings → Walking g t (crossed g s e rest) bounds arcs places marks way (depth - 1)
  unfolding crossed stops_from
  crossed_back {e} {rest} q walked = record {
    around = w.around;
    places_room = w.places_room;
    marks_room = w.marks_room;
    way_room = w.way_room;
    within = w.within;
    passed = λ v i h k. Memᴰ.append_left (e ∷ []) (w.passed v i h k);
    marked = λ f m. old f (Memᴰ.append_cases s.crossings m);
    only_marked = λ f p. Memᴰ.append_left (e ∷ []) (w.only_marked f p);
    deep = omega (arith, w.deep, ap length q);
    stack = stacked;
    vertices = λ i h. w.vertices i (omega arith);
  }
    where
      old : (f : ℕ) → (f ∈ s.crossings) ⊎ (f ∈ (e ∷ [])) → get_or marks f 0 ≡ 1
      old f (inl m) = w.marked f m
      old f (inr m) = w.marked f (Memᴰ.cast (Memᴰ.eq_of_singleton m) walked)

      stacked : (i : ℕ) → i ≤ depth - 1 → get_or way (depth - 1 - i) 0 ≡ get_or (stops_from g (far_end g e s.stop) rest) i 0
      stacked i h =
          let lower : depth - 1 - i ≡ depth - suc i = omega arith in
          rw lower (w.stack (suc i) (omega (arith, w.deep, ap length q)) ∙ ap (λ l. get_or (stops_from g s.stop l) (suc i) 0) q)

-- THE TURN

-- What was found at a stop.
pub record FoundAt (bounds arcs places marks around : List ℕ) (at stop : ℕ) : Type 0 where
  pub is : around ≡ segment bounds arcs stop
  pub next : NextPlace around marks (get_or places stop 0) at

module _ (g : Graph) (t : Tree) (i : ℕ) where
  abbrev s : Underway
  s = after_turns g t i

  one_turn : after_turns g t (i + 1) ≡ turn g t s
  unfolding after_turns
  one_turn = rw add-one

  -- On by the next edge, or back.
  turned_on : {e : ℕ} → next_edge g t s.stop s.crossings ≡ some e → after_turns g t (i + 1) ≡ crossed g s e (e ∷ s.way)
  unfolding turn turn_by
  turned_on q = one_turn ∙ ap (turn_by g s) q

  turned_home : next_edge g t s.stop s.crossings ≡ none → {way : List ℕ} → s.way ≡ way → after_turns g t (i + 1) ≡ homeward g s way
  unfolding turn turn_by
  turned_home q w = one_turn ∙ ap (turn_by g s) q ∙ ap (homeward g s) w

  -- The arrays after the turn, where the walk was at this stop.
  abbrev After : List ℕ → List ℕ → List ℕ → ℕ → List ℕ → List ℕ → ℕ → ℕ → Type 0
  After bounds arcs places at marks way depth stop = Walking g t (after_turns g t (i + 1)) bounds arcs (set places stop at) marks way depth

  module _ {bounds arcs places marks way : List ℕ} {depth : ℕ} (w : Walking g t s bounds arcs places marks way depth) {around : List ℕ} {at : ℕ} where
    went_on : depth < 256 → at < length around → FoundAt bounds arcs places marks around at s.stop
        → After bounds arcs places at (set marks (arc_edge (get_or around at 0)) 1) (set way (depth + 1) (arc_head (get_or around at 0))) (depth + 1) s.stop
    went_on shallow h f =
        let (m, p) = of_filter (touches g s.stop) t.edges (edge_here w f.is at h) in
        rw (turned_on (next_is w f.is f.next h), edge_of w f.is at h)
        (crossed_on (passed_over w f.is f.next) p (edge_fits w f.is at h) shallow (head_of w f.is at h))

    went_home : at ≡ length around → FoundAt bounds arcs places marks around at s.stop → After bounds arcs places at marks way (depth - 1) s.stop
    unfolding homeward
    went_home h f = go s.way refl
      where
        over : Walking g t s bounds arcs (set places s.stop at) marks way depth
        over = passed_over w f.is f.next

        go : (l : List ℕ) → s.way ≡ l → After bounds arcs places at marks way (depth - 1) s.stop
        go [] q =
            let none_up : depth - 1 ≡ depth = omega (arith, w.deep, ap length q) in
            rw (turned_home (next_none w f.is f.next h) q, none_up) over
        go (e ∷ rest) q =
            rw (turned_home (next_none w f.is f.next h) q) (crossed_back over q (way_walked g t i e (rw q (Memᴰ.head refl))))

    -- The stop is the last of the way.
    module _ {stop : ℕ} (here : stop ≡ get_or way depth 0) (f : FoundAt bounds arcs places marks around at stop) where
      at_last : s.stop ≡ stop
      at_last = sym (here ∙ at_stop w)

      found : FoundAt bounds arcs places marks around at s.stop
      found = subst (FoundAt bounds arcs places marks around at) (sym at_last) f

      pub turn_on : depth < 256 → at < length around
          → After bounds arcs places at (set marks (arc_edge (get_or around at 0)) 1) (set way (depth + 1) (arc_head (get_or around at 0))) (depth + 1) stop
      turn_on shallow h = subst (After bounds arcs places at _ _ (depth + 1)) at_last (went_on shallow h found)

      pub turn_home : at ≡ length around → After bounds arcs places at marks way (depth - 1) stop
      turn_home h = subst (After bounds arcs places at marks way (depth - 1)) at_last (went_home h found)
