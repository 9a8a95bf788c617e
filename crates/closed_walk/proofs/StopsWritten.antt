-- The stops of the walk along a tree, written turn by turn.
-- Assumes nothing.
use Prim.Native.Nat.{ℕ, zero, suc, ◌+◌, ◌-◌, ◌*◌, ◌≤◌, ◌<◌}
use mathlib.Core.Path.{◌≡◌, refl, ◌∙◌}
use mathlib.Core.List.Memᴰ
use mathlib.Core.List.{List, [], ◌∷◌, ◌++◌}
use native.Mathlib.Omega.{arith}
use lib.ListN.{length, drop, get_or, set, replicate, length-set, length-replicate}
use lib.Seq.{get_or-set_same}
use Rattle.lists.specs.Put.{PutTo}
use Rattle.lists.proofs.Put.{put_length}
use Rattle.lists.proofs.Zeros.{zeros_at}
use Rattle.graph.specs.Graph.{Graph}
use Rattle.rules.specs.Cover.{Tree}
use Rattle.rules.specs.CoverBytes.{u16_bytes, u16_list}
use Rattle.rules.specs.ClosedWalk.{stops_from, stops_of, after_turns, closed_walk}
use Rattle.rules.proofs.Fields.{field_length}
use Rattle.cover_laws.proofs.CoverSize.{tree_edges_few}
use Rattle.cover_laws.proofs.TurnsReached.{way_few}
use Rattle.cover_laws.proofs.ClosedWalk.{one_stop}
use Rattle.edges.specs.Around.{Around}
use Rattle.edges.specs.PutAround.{RoomAround}
use Rattle.cover.proofs.Writing.{as_list, no_fields, fields_behind}
use Rattle.closed_walk.specs.Turn.{Walking, TurnAsked, WriteAsked, walk_stops}
use Rattle.closed_walk.proofs.NextFound.{at_stop}

-- The stops behind the first.
abbrev later_stops : Graph → ℕ → List ℕ → List ℕ
later_stops g u crossings = drop 1 (stops_from g u crossings)

later_more : (g : Graph) (u : ℕ) (crossings : List ℕ) (x : ℕ) → drop 1 (stops_from g u crossings ++ (x ∷ [])) ≡ later_stops g u crossings ++ (x ∷ [])
unfolding stops_from
later_more g u [] x = refl
later_more g u (e ∷ crossings) x = refl

first_later : (g : Graph) (u : ℕ) (crossings : List ℕ) → (u ∷ []) ++ later_stops g u crossings ≡ stops_from g u crossings
unfolding stops_from
first_later g u [] = refl
first_later g u (e ∷ crossings) = refl

-- After i turns: the arrays say where the walk is, and its stops behind the first are put.
pub record WalkPut (g : Graph) (t : Tree) (i : ℕ) (bounds arcs places marks way : List ℕ) (depth : ℕ) (buf₀ buf : List ℕ) (next₀ next : ℕ) : Type 0 where
  pub within : i ≤ 2 * length t.edges
  pub walking : Walking g t (after_turns g t i) bounds arcs places marks way depth
  pub put : PutTo next₀ (u16_list (later_stops g t.start (after_turns g t i).crossings)) buf₀ buf next
  pub behind : next ≡ 2 * (i + 1)

module _ {g : Graph} {t : Tree} where
  -- At the start, where nothing is walked, all arrays but the way are zeros.
  walking_begun : {bounds arcs : List ℕ} → Around g t.edges bounds arcs → t.start < g.vertices
      → Walking g t (after_turns g t 0) bounds arcs (replicate 256 0) (replicate 2048 0) (set (replicate 257 0) 0 t.start) 0
  unfolding after_turns stops_from
  walking_begun around inside = record {
    around = around;
    places_room = length-replicate {A = ℕ} 256 0;
    marks_room = length-replicate {A = ℕ} 2048 0;
    way_room = length-set (replicate 257 0) 0 t.start ∙ length-replicate {A = ℕ} 257 0;
    within = λ v h. omega (arith, zeros_at 256 v);
    passed = λ v i h k. absurd (omega (arith, zeros_at 256 v));
    marked = λ e m. absurd (Memᴰ.not-nil m);
    only_marked = λ e q. absurd (omega (arith, zeros_at 2048 e));
    deep = refl;
    stack = stack;
    vertices = λ i h. let first : i ≡ 0 = omega arith in rw (first, get_or-set_same (replicate 257 0) 0 t.start 0 some) inside;
  }
    where
      some : 0 < length {A = ℕ} (replicate 257 0)
      some = omega (arith, length-replicate {A = ℕ} 257 0)

      stack : (i : ℕ) → i ≤ 0 → get_or (set (replicate 257 0) 0 t.start) (0 - i) 0 ≡ get_or (t.start ∷ []) i 0
      stack zero h = get_or-set_same (replicate 257 0) 0 t.start 0 some
      stack (suc i) h = absurd (omega arith)

  pub walk_begun : {bounds arcs buf₀ buf : List ℕ} {next : ℕ} → Around g t.edges bounds arcs → t.start < g.vertices → PutTo 0 (u16_bytes t.start) buf₀ buf next
      → WalkPut g t 0 bounds arcs (replicate 256 0) (replicate 2048 0) (set (replicate 257 0) 0 t.start) 0 buf buf next next
  unfolding after_turns stops_from
  walk_begun {buf = buf} {next = next} around inside p =
      let two : next ≡ 2 = omega (arith, p.behind, field_length t.start) in
      record {
        within = omega arith;
        walking = walking_begun around inside;
        put = no_fields buf next (omega (arith, p.put.room, field_length t.start, put_length p.put));
        behind = omega arith;
      }

  -- A tree has at most 255 edges, so that there is room for their arcs, and for the way.
  module _ {room : ℕ} (asked : WriteAsked g t room) where
    pub few : length t.edges ≤ 255
    few = omega (arith, tree_edges_few g asked.valid t asked.is_tree, asked.valid.vertices_most)

    pub room_around : RoomAround g t.edges (replicate 257 0) (replicate 510 0)
    room_around = record {
      valid = asked.valid;
      inside = asked.is_tree.edges_inside;
      few = omega (arith, few);
      bounds_room = omega (arith, length-replicate {A = ℕ} 257 0, asked.valid.vertices_most);
      arcs_room = omega (arith, length-replicate {A = ℕ} 510 0, few);
    }

    pub shallow : (i : ℕ) {bounds arcs places marks way : List ℕ} {depth : ℕ} → Walking g t (after_turns g t i) bounds arcs places marks way depth → depth < 256
    shallow i w = omega (arith, w.deep, way_few g t i, few)

  module _ {i : ℕ} {bounds arcs places marks way : List ℕ} {depth : ℕ} {buf₀ buf : List ℕ} {next₀ next : ℕ}
      (w : WalkPut g t i bounds arcs places marks way depth buf₀ buf next₀ next) {buf₋ : List ℕ} (first : PutTo 0 (u16_bytes t.start) buf₋ buf₀ next₀) where
    pub walk_length : length buf ≡ length buf₋
    walk_length = put_length w.put.put ∙ put_length first.put

    module _ (asked : WriteAsked g t (length buf₋)) where
      -- There is room for a turn more, and for its stop.
      pub turn_asked : TurnAsked bounds arcs places marks way depth
      turn_asked = record { graph = g; tree = t; turns = i; walking = w.walking; room = shallow asked i w.walking }

      pub stop_room : i < 2 * length t.edges → next + 2 ≤ length buf
      stop_room h = omega (arith, w.behind, few asked, walk_length, asked.fits)

      -- One turn further, and its stop is put.
      pub walk_further : i < 2 * length t.edges → {places' marks' way' : List ℕ} {depth' x : ℕ}
          → Walking g t (after_turns g t (i + 1)) bounds arcs places' marks' way' depth' → x ≡ get_or way' depth' 0
          → {buf' : List ℕ} {next' : ℕ} → PutTo next (u16_bytes x) buf buf' next'
          → WalkPut g t (i + 1) bounds arcs places' marks' way' depth' buf₀ buf' next₀ next'
      walk_further h {x = x} walking q p = record {
        within = omega arith;
        walking = walking;
        put =
            rw (one_stop asked.is_tree i h, ← (q ∙ at_stop walking), later_more g t.start (after_turns g t i).crossings x)
            (fields_behind _ (x ∷ []) w.put (as_list x p));
        behind = omega (arith, p.behind, field_length x, w.behind);
      }

    -- All stops are put.
    pub walk_all : i ≡ 2 * length t.edges → PutTo 0 (u16_list (walk_stops g t)) buf₋ buf next
    unfolding stops_of closed_walk
    walk_all q =
        rw (first_later g t.start (after_turns g t i).crossings, q) at (fields_behind (t.start ∷ []) _ (as_list t.start first) w.put)
