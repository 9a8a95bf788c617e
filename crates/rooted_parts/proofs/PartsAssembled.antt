-- Where the pieces are placed, the parts are held, and they are few.
-- Assumes nothing.
use Prim.Native.Nat.{ℕ, ◌*◌, ◌≤◌, ◌<◌}
use mathlib.Core.Path.{◌≡◌}
use mathlib.Core.List.{List}
use native.Mathlib.Nat.{mul-le-mul_right}
use native.Mathlib.Omega.{arith}
use lib.ListN.{length, take}
use Rattle.graph.specs.Graph.{Graph}
use Rattle.planner_laws.proofs.RootedSize.{rooted_parts_few}
use Rattle.rooted_state.specs.Placed.{PieceArrays, arrays_of, PiecesPlaced}
use Rattle.rooted_state.proofs.PlacedPieces.{places_many, parts_count}
use Rattle.rooted_parts.specs.Parts.{PartsAsked, PartsHeld}

-- Where the pieces are placed, the parts are held.
pub asked_held : {g : Graph} {roots : List ℕ} {limit : ℕ} {bounds arcs distances : List ℕ} {a : PieceArrays} {rows assignment starts cuts members lefts places : List ℕ} {p : ℕ}
    → PartsAsked g roots limit bounds arcs distances a rows assignment → PiecesPlaced g roots limit (arrays_of starts cuts members lefts places) p
    → PartsHeld g roots limit distances starts cuts members places p
asked_held {lefts = lefts} asked placed = record { ready = asked.ready; lefts = lefts; placed = placed }

module _ {g : Graph} {roots : List ℕ} {limit : ℕ} {distances starts cuts members places : List ℕ} {p : ℕ} (held : PartsHeld g roots limit distances starts cuts members places p) where
  abbrev k : ℕ
  k = length roots

  pub few : p < g.vertices
  few = omega (arith, parts_count held.placed, rooted_parts_few g roots limit held.ready.given.valid)

  -- Rows for all vertices have room for those of the parts.
  pub rows_enough : {m : ℕ} → g.vertices * k ≤ m → p * k ≤ m
  rows_enough m = let h : p ≤ g.vertices = omega (arith, few) in omega (arith, mul-le-mul_right k h)

  pub out_enough : {m : ℕ} → g.vertices ≤ m → p ≤ m
  out_enough h = omega (arith, few)

  pub many : length (take p places) ≡ p
  many = places_many held.placed
