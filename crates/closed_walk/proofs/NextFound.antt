-- The next edge as the arrays tell it: the first arc around the stop, past those that were passed over, whose edge is not marked.
-- Assumes nothing.
use Prim.Native.Nat.{ℕ, ◌+◌, ◌-◌, ◌<◌, min}
use mathlib.Core.Path.{◌≡◌, refl, sym, ap, subst, ◌∙◌}
use mathlib.Core.Bool.{true, not}
use mathlib.Core.List.Memᴰ
use mathlib.Core.List.{List, [], ◌∷◌, map}
use mathlib.Core.Option.{some, none}
use native.Mathlib.Omega.{arith}
use native.Mathlib.Decide.{dec_lt}
use lib.ListN.{length, drop, get_or, length-map, length-take}
use lib.Seq.{get_or-take, drop-length}
use Rattle.lists.specs.Lists.{first_that, member}
use Rattle.lists.specs.Member.{◌∈◌}
use Rattle.lists.specs.Segments.{segment}
use Rattle.lists.proofs.Member.{of_filter, out_member}
use Rattle.lists.proofs.Places.{at_place, place_of, map_at}
use Rattle.lists.proofs.TakeDrop.{drop_more}
use Rattle.graph.specs.Graph.{Graph}
use Rattle.rules.specs.Cover.{Tree}
use Rattle.rules.specs.Grow.{far_end, touches}
use Rattle.rules.specs.ClosedWalk.{stops_from, Underway, next_edge}
use Rattle.cover_laws.proofs.NextEdge.{next_past}
use Rattle.edges.specs.Around.{arc_of, arc_edge, arc_head, arcs_at}
use Rattle.edges.proofs.Arcs.{arc_edge_lem, valid_arc_head}
use Rattle.closed_walk.specs.Turn.{PlaceAsked, NextPlace, ArcsHeld, edges_around, Walking}

-- A walk's first stop is where it begins.
stops_first : (g : Graph) (u : ℕ) (path : List ℕ) → get_or (stops_from g u path) 0 0 ≡ u
unfolding stops_from
stops_first g u [] = refl
stops_first g u (e ∷ path) = refl

module _ {g : Graph} {t : Tree} {s : Underway} {bounds arcs places marks way : List ℕ} {depth : ℕ} (w : Walking g t s bounds arcs places marks way depth) where
  -- The walk is at the last stop of the way, a vertex.
  pub at_stop : get_or way depth 0 ≡ s.stop
  at_stop =
      let top : depth - 0 ≡ depth = omega arith in
      rw top at (w.stack 0 (omega arith) ∙ stops_first g s.stop s.way)

  pub stop_vertex : s.stop < g.vertices
  stop_vertex = omega (arith, at_stop, w.vertices depth (omega arith))

  -- Its arcs are those of the tree's edges there.
  module _ {around : List ℕ} (is : around ≡ segment bounds arcs s.stop) where
    abbrev here : List ℕ
    here = edges_around g t s.stop

    arcs_here : around ≡ map (arc_of g s.stop) here
    unfolding arcs_at
    arcs_here = is ∙ w.around.are s.stop stop_vertex

    pub as_many : length around ≡ length here
    as_many = ap length arcs_here ∙ length-map here (arc_of g s.stop)

    module _ (i : ℕ) (within : i < length around) where
      pub edge_here : get_or here i 0 ∈ here
      edge_here = at_place 0 here i (omega (arith, as_many))

      pub edge_fits : get_or here i 0 < 2048
      edge_fits =
          let (m, p) = of_filter (touches g s.stop) t.edges edge_here in
          omega (arith, w.around.inside (get_or here i 0) m, w.around.valid.edges_most)

      arc_here : get_or around i 0 ≡ arc_of g s.stop (get_or here i 0)
      arc_here = ap (λ l. get_or l i 0) arcs_here ∙ map_at (arc_of g s.stop) 0 0 here i (omega (arith, as_many))

      pub edge_of : arc_edge (get_or around i 0) ≡ get_or here i 0
      edge_of = ap arc_edge arc_here ∙ arc_edge_lem g s.stop (get_or here i 0) (omega (arith, edge_fits))

      pub head_of : arc_head (get_or around i 0) ≡ far_end g (get_or here i 0) s.stop
      head_of = ap arc_head arc_here ∙ valid_arc_head w.around.valid s.stop (get_or here i 0) (omega (arith, edge_fits))

    place_asked : PlaceAsked around marks (get_or places s.stop 0)
    place_asked = record {
      within = omega (arith, w.within s.stop stop_vertex, as_many);
      each = λ i h. omega (arith, edge_of i h, edge_fits i h, w.marks_room);
    }

    module _ {at : ℕ} (n : NextPlace around marks (get_or places s.stop 0) at) where
      -- All arcs before the place found are of walked edges.
      pub all_passed : (i : ℕ) → i < at → get_or here i 0 ∈ s.crossings
      all_passed i h = go (dec_lt i (get_or places s.stop 0))
        where
          go : Dec (i < get_or places s.stop 0) → get_or here i 0 ∈ s.crossings
          go (yes p) = w.passed s.stop i stop_vertex p
          go (no p) = w.only_marked (get_or here i 0) (rw (edge_of i (omega (arith, n.within))) at (n.passed i (omega arith) h))

      -- So the next edge is the first one not before it.
      next_from : next_edge g t s.stop s.crossings ≡ first_that (λ e. not (member e s.crossings)) (drop at here)
      next_from = next_past g t s.stop s.crossings at λ e m.
          let (i, h, q) = place_of 0 m in
          let few : i < min at (length here) = rw length-take at h in
          Memᴰ.cast (sym q ∙ get_or-take at here i 0 (omega arith)) (all_passed i (omega arith))

      -- It is that at the place found,
      pub next_is : at < length around → next_edge g t s.stop s.crossings ≡ some (get_or here at 0)
      unfolding first_that
      next_is h =
          let left : not (member (get_or here at 0) s.crossings) ≡ true =
          out_member (get_or here at 0) s.crossings (λ m. n.next h (rw (edge_of at h) (w.marked (get_or here at 0) m))) in
          next_from ∙ ap (first_that (λ e. not (member e s.crossings))) (drop_more 0 here at (omega (arith, as_many))) ∙ rw left

      -- and there is none where no place was found.
      pub next_none : at ≡ length around → next_edge g t s.stop s.crossings ≡ none
      unfolding first_that
      next_none h = next_from ∙ ap (λ k. first_that (λ e. not (member e s.crossings)) (drop k here)) (h ∙ as_many) ∙ ap (first_that (λ e. not (member e s.crossings))) (drop-length here)

  -- The walk is at the last stop of the way: its arcs stand between their bounds, and each of their edges has a mark.
  module _ {stop : ℕ} (here : stop ≡ get_or way depth 0) where
    pub last_vertex : stop < g.vertices
    last_vertex = omega (arith, w.vertices depth (omega arith))

    pub arcs_held : ArcsHeld bounds arcs stop
    arcs_held = record {
      bounded = omega (arith, w.around.sound.bounds_room, last_vertex);
      forward = w.around.sound.rising stop last_vertex;
      inside = w.around.sound.within (stop + 1) (omega (arith, last_vertex));
    }

    pub places_asked : {around : List ℕ} → around ≡ segment bounds arcs stop → PlaceAsked around marks (get_or places stop 0)
    places_asked {around} is =
        let there : s.stop ≡ stop = sym (here ∙ at_stop) in
        subst (λ x. PlaceAsked around marks (get_or places x 0)) there (place_asked (is ∙ ap (segment bounds arcs) (sym there)))
