-- Where the parts are placed and assigned, each root's tree may be made.
-- Assumes nothing.
use Prim.Native.Nat.{ℕ, ◌<◌}
use mathlib.Core.Path.{◌≡◌}
use mathlib.Core.List.{List}
use native.Mathlib.Omega.{arith}
use lib.ListN.{length, get_or}
use lib.Seq.{get_or-take}
use Rattle.graph.specs.Graph.{Graph}
use Rattle.distance_table.specs.Tabled.{row_of}
use Rattle.rooted_state.specs.Prepared.{LimitReady}
use Rattle.rooted_state.specs.Placed.{PieceArrays}
use Rattle.rooted_state.proofs.PlacedPieces.{piece_at, places_many, start_in_lem}
use Rattle.rooted_cover.specs.Tree.{ReachGiven}
use Rattle.rooted_cover.specs.CoverTrees.{RootTreesGiven, parts_of, CoverAsked}
use Rattle.rooted_cover.proofs.AssignedPart.{bytes_room, byte_is_root, row_whole, part_edge, left_edge, part_back}

module _ {g : Graph} {order distances lasts roots : List ℕ} {a : PieceArrays} {parts : ℕ} {assignment : List ℕ} {edges_room room : ℕ}
    (asked : CoverAsked g order distances lasts roots a parts assignment edges_room room) where
  abbrev ready : LimitReady g roots asked.limit distances
  ready = asked.ready.ready

  -- The part of a root may be marked, with the path to it.
  reach : (j : ℕ) → j < length roots → (i : ℕ) → i < parts → get_or assignment i 0 ≡ j
      → ReachGiven g (row_of g.vertices distances j) (row_of g.vertices lasts j) (get_or roots j 0) (piece_at a i).start (piece_at a i).edges 2048
  reach j h i l q =
      let p = asked.placed in
      let valid = ready.given.valid in
      rw (← q) (record {
        part = record { valid = valid; room = row_whole g.vertices distances _ _ (byte_is_root p i l) ready.distances_are.room; start_inside = start_in_lem p.pieces i l };
        marks = λ e m. omega (arith, part_edge p i l e m, valid.edges_most);
        back = λ v n. part_back p valid ready.distances_are (omega (arith, ready.limit_most)) i l asked.ready.last_edges n;
      })

  pub roots_given : RootTreesGiven g order distances lasts roots (parts_of parts a) assignment
  roots_given =
      let p = asked.placed in
      let valid = ready.given.valid in
      let many = places_many p.pieces in
      record {
        valid = valid;
        distances_room = ready.distances_are.room;
        last_room = asked.ready.last_edges.room;
        each =
            λ j h room l.
            record {
              asked = record { valid = valid; in_order = asked.ready.in_order; room = l };
              piece = record { held = p.pieces.lefts_held j h; marks = λ e m. omega (arith, left_edge p j h e m, valid.edges_most) };
              assigned =
                  record {
                    bytes = omega (arith, bytes_room p);
                    held = p.pieces.parts_held;
                    reach = λ i w q. rw (get_or-take parts a.places i 0 (omega arith)) (reach j h i (omega arith) q);
                  };
            };
      }
