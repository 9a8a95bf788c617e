-- The words of the parts' trees have the roots to which the parts may go, where the words of the vertices have those within the limit.
-- Assumes nothing.
use Prim.Native.Nat.{ℕ, ◌≤◌, ◌<◌}
use mathlib.Core.Path.{◌≡◌, sym, ap, ◌∙◌}
use mathlib.Core.List.{List}
use native.Mathlib.Omega.{arith}
use lib.ListN.{length, get_or, take}
use lib.Seq.{get_or-take}
use Rattle.lists.specs.Lists.{any}
use Rattle.lists.proofs.Places.{at_place}
use Rattle.lists.proofs.Put.{only_first_length}
use Rattle.graph.specs.Graph.{Graph}
use Rattle.rules.specs.Cover.{Tree}
use Rattle.rules.specs.Distance.{tree_vertices, reaches_part}
use Rattle.rules.specs.Held.{tree_at}
use Rattle.rules.specs.RootedTrial.{may_go}
use Rattle.near.specs.Bits.{bit_at}
use Rattle.near.specs.Held.{NearPiecesAsked, NearPieces}
use Rattle.rooted_parts.specs.Near.{VerticesNear, PartsNear}
use Rattle.rooted_parts.specs.Parts.{WordsAsked}
use Rattle.rooted_state.proofs.NearMeansMayGo.{tree_reaches, reaches_risen}
use Rattle.rooted_state.proofs.PlacedPieces.{parts_count, part_is, start_in_lem}
use Rattle.rooted_parts.proofs.PartsAssembled.{many}

module _ {g : Graph} {roots : List ℕ} {limit : ℕ} {distances starts cuts members places : List ℕ} {p : ℕ} {words : List ℕ}
    (a : WordsAsked g roots limit distances starts cuts members places p words) where
  -- What is asked for the words of the parts.
  pub near_pieces_asked : {near : List ℕ} → 256 ≤ length near → NearPiecesAsked g near starts cuts members (take p places) words
  near_pieces_asked room =
      let valid = a.held.ready.given.valid in
      let placed = a.held.placed in
      record {
        given = record { valid = valid; room = omega (arith, valid.vertices_most) };
        trees = λ i h. let m = at_place 0 (take p places) i h in record { held = placed.parts_held _ m; start_inside = placed.starts_inside _ m };
        words_room = rw (many a.held) a.words_room;
      }

  pub pieces_near : {near : List ℕ} → VerticesNear g roots limit near → {after : List ℕ} → NearPieces g near starts cuts members (take p places) words after
      → PartsNear g roots limit after p
  unfolding may_go tree_at
  pieces_near {near} vertices {after} pieces =
      record {
        count = parts_count a.held.placed;
        within = omega (arith, a.words_room, only_first_length pieces.rest);
        each = each;
      }
    where
      each : (i j : ℕ) → i < p → j < length roots → bit_at j (get_or after i 0) ≡ may_go g roots limit i j
      each i j h l =
          let c : ℕ = get_or places i 0 in
          let t : Tree = tree_at starts cuts members c in
          let root : ℕ = get_or roots j 0 in
          let same : get_or (take p places) i 0 ≡ c = get_or-take p places i 0 h in
          (pieces.each i (omega (arith, many a.held))).each j
          ∙ ap (λ x. any (λ v. bit_at j (get_or near v 0)) (tree_vertices g (tree_at starts cuts members x))) same
          ∙ tree_reaches a.held.ready.given.valid limit root (λ v. bit_at j (get_or near v 0)) (λ v m. vertices.each v j m l) t (start_in_lem a.held.placed i h)
          ∙ reaches_risen g limit root t
          ∙ ap (reaches_part g limit root) (sym (part_is a.held.placed i h))
