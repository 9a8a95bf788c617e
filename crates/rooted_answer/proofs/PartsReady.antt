-- Arrays of zeros have room for the parts of every trial: at most 256 vertices and 32 roots. The rows, which are lent, have it where they are large
-- enough.
-- Assumes nothing.
use Prim.Native.Nat.{ℕ, ◌*◌, ◌≤◌}
use mathlib.Core.List.{List}
use native.Mathlib.Omega.{arith}
use lib.ListN.{length, replicate, length-replicate}
use Rattle.graph.specs.Graph.{Graph}
use Rattle.rooted_state.specs.Prepared.{WholeAround, PartsReady}
use Rattle.rooted_state.specs.Placed.{PieceArrays, arrays_of}
use Rattle.rooted_state.proofs.RootsReady.{limit_ready}
use Rattle.rooted_parts.specs.Parts.{PiecesAsked, PartsAsked}

-- The arrays before the trial.
abbrev pub empty_arrays : PieceArrays
empty_arrays = arrays_of (replicate 288 0) (replicate 289 0) (replicate 256 0) (replicate 32 0) (replicate 256 0)

pieces_asked : {g : Graph} {roots : List ℕ} {limit : ℕ} {bounds arcs distances : List ℕ} → PartsReady g roots limit distances
    → WholeAround g roots bounds arcs → PiecesAsked g roots limit bounds arcs empty_arrays
pieces_asked r around =
    let given = r.asked.decidable.given in
    let most = given.valid.vertices_most in
    let few = given.few in
    record {
      given = given;
      around = around;
      joined = r.joined;
      starts_room = omega (arith, most, few, length-replicate {A = ℕ} 288 0);
      cuts_room = omega (arith, most, few, length-replicate {A = ℕ} 289 0);
      members_room = omega (arith, most, length-replicate {A = ℕ} 256 0);
      lefts_room = omega (arith, few, length-replicate {A = ℕ} 32 0);
      places_room = omega (arith, most, length-replicate {A = ℕ} 256 0);
    }

pub parts_asked : {g : Graph} {roots : List ℕ} {limit : ℕ} {bounds arcs distances : List ℕ} → PartsReady g roots limit distances → WholeAround g roots bounds arcs
    → {rows : List ℕ} → g.vertices * length roots ≤ length rows
    → PartsAsked g roots limit bounds arcs distances empty_arrays rows (replicate 256 0)
parts_asked r around room =
    record {
      pieces = pieces_asked r around;
      ready = limit_ready r.asked;
      rows_room = room;
      assignment_room = omega (arith, r.asked.decidable.given.valid.vertices_most, length-replicate {A = ℕ} 256 0);
    }
