-- The parts of a trial by the places of their pieces: how many they are, and which piece each is.
-- Assumes nothing.
use Prim.Native.Nat.{ℕ, ◌<◌}
use mathlib.Core.Path.{◌≡◌, sym, ap, ◌∙◌}
use mathlib.Core.List.{List, [], map, map-map}
use native.Mathlib.Omega.{arith}
use lib.ListN.{length, get_or, take, length-map}
use lib.Seq.{get_or-take, length-take-le}
use Rattle.lists.specs.Member.{◌∈◌}
use Rattle.lists.specs.Segments.{segment}
use Rattle.lists.proofs.Places.{at_place, map_at}
use Rattle.graph.specs.Graph.{Graph}
use Rattle.rules.specs.Cover.{Tree}
use Rattle.rules.specs.Held.{tree_at, trees_at, risen}
use Rattle.rules.specs.RootedTrial.{rooted_parts, part_of}
use Rattle.pieces.specs.Pieces.{tree_of}
use Rattle.rooted_state.specs.Placed.{PieceArrays, PiecesPlaced}

-- The piece at place i.
abbrev pub piece_at : PieceArrays → ℕ → Tree
piece_at a i = tree_of (get_or a.starts (get_or a.places i 0) 0) (segment a.cuts a.members (get_or a.places i 0))

module _ {g : Graph} {roots : List ℕ} {limit : ℕ} {a : PieceArrays} {parts : ℕ} (p : PiecesPlaced g roots limit a parts) where
  -- There is a place for each part,
  pub places_many : length (take parts a.places) ≡ parts
  places_many = length-take-le parts a.places p.parts_room

  pub parts_count : parts ≡ length (rooted_parts g roots limit)
  unfolding trees_at
  parts_count =
      let tree : ℕ → Tree = tree_at a.starts a.cuts a.members in
      let chosen : List ℕ = take parts a.places in
      sym places_many ∙ sym (length-map chosen tree) ∙ sym (length-map (map tree chosen) risen) ∙ ap length p.parts_are

  pub place_in : (i : ℕ) → i < parts → get_or a.places i 0 ∈ take parts a.places
  place_in i h = rw (get_or-take parts a.places i 0 h) at (at_place 0 (take parts a.places) i (omega (arith, places_many)))

  -- whose piece is the part once its edges rise,
  pub part_is : (i : ℕ) → i < parts → part_of (rooted_parts g roots limit) i ≡ risen (piece_at a i)
  unfolding part_of trees_at tree_at
  part_is i h =
      let nothing : Tree = record { start = 0; edges = [] } in
      let tree : ℕ → Tree = tree_at a.starts a.cuts a.members in
      ap (λ (l : List Tree). get_or l i nothing) (sym p.parts_are ∙ map-map risen tree (take parts a.places))
      ∙ map_at (λ c. risen (tree c)) 0 nothing (take parts a.places) i (omega (arith, places_many))
      ∙ ap (λ c. risen (tree c)) (get_or-take parts a.places i 0 h)

  -- and starts at a vertex of the graph.
  pub start_in_lem : (i : ℕ) → i < parts → (piece_at a i).start < g.vertices
  start_in_lem i h = p.starts_inside _ (place_in i h)
