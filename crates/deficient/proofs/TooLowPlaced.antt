-- Where the parts of a rooted trial are placed and a deficient set was found, its parts may be written; and what is written is the trial's answer.
-- Assumes nothing.
use Prim.Native.Nat.{ℕ, ◌*◌, ◌≤◌}
use mathlib.Core.Path.{◌≡◌, refl, ap, ◌∙◌}
use mathlib.Core.Bool.{false, ◌&&◌}
use mathlib.Core.List.{List, map}
use native.Mathlib.Omega.{arith}
use lib.ListN.{length, take, length-take}
use Rattle.lists.specs.Segments.{segment}
use Rattle.lists.proofs.Pigeonhole.{count_same}
use Rattle.lists.proofs.SameTests.{any_below_same}
use Rattle.lists.proofs.Sorting.{rise_length}
use Rattle.lists.proofs.SumsAlike.{sum_same, sum_of_map, length_flat_map}
use Rattle.graph.specs.Graph.{Graph}
use Rattle.graph.specs.Valid.{Valid}
use Rattle.matching.specs.Assignment.{marked, marked_parts, allowed_roots}
use Rattle.matching.specs.Input.{allowed_at}
use Rattle.rules.specs.Cover.{Tree}
use Rattle.rules.specs.CoverBytes.{entry_edges}
use Rattle.rules.specs.Held.{tree_at, trees_at, risen}
use Rattle.rules.specs.RootedTrial.{may_go}
use Rattle.rules.specs.Questions.{least_room}
use Rattle.planner_laws.proofs.RootedSize.{parts_edges_few, rooted_parts_few}
use Rattle.deficient.specs.declared.Deficient.{Deficient}
use Rattle.rooted_state.specs.Placed.{TrialArrays, PartsPlaced}
use Rattle.rooted_state.proofs.PlacedPieces.{parts_count}
use Rattle.deficient.specs.TooLowParts.{edges_of, SetGiven, SetWritten, DeficientWritten}

-- Pieces have as many edges as the trees that they are once their edges rise.
pub risen_edges : (starts cuts members chosen : List ℕ) → length (entry_edges (map risen (trees_at starts cuts members chosen))) ≡ edges_of cuts members chosen
unfolding entry_edges trees_at tree_at risen
risen_edges starts cuts members chosen =
    let trees = map (tree_at starts cuts members) chosen in
    length_flat_map (λ (t : Tree). t.edges) (map risen trees)
    ∙ sum_of_map (λ (t : Tree). length t.edges) risen trees
    ∙ sum_of_map (λ (t : Tree). length (risen t).edges) (tree_at starts cuts members) chosen
    ∙ sum_same (λ c. length (risen (tree_at starts cuts members c)).edges) (λ c. length (segment cuts members c)) chosen (λ c m. rise_length (segment cuts members c))

module _ {g : Graph} {roots : List ℕ} {limit : ℕ} {a : TrialArrays} {parts : ℕ} (p : PartsPlaced g roots limit a parts false) where
  pub too_low_given : Valid g → {room : ℕ} → parts * length roots ≤ length a.rows → least_room ≤ room
      → SetGiven a.pieces.cuts a.pieces.members a.pieces.places parts a.rows a.assignment (length roots) room
  too_low_given valid rows most =
      let few = rooted_parts_few g roots limit valid in
      let light = parts_edges_few g roots limit valid in
      let marks = (p.rows.deficient refl).each in
      let same = ap (λ l. length (entry_edges l)) p.pieces.parts_are in
      record {
        places_room = p.pieces.parts_room;
        marks_room = omega (arith, length-take parts a.assignment);
        rows_room = rows;
        held = p.pieces.parts_held;
        few = omega (arith, parts_count p.pieces, valid.vertices_most);
        light = omega (arith, same, risen_edges a.pieces.starts a.pieces.cuts a.pieces.members (take parts a.pieces.places), valid.vertices_most);
        most = most;
      }

  -- The roots allowed by the rows are those that the trial allows.
  same_allowed : (marks : List ℕ) → allowed_roots parts (length roots) (allowed_at a.rows (length roots)) marks ≡ allowed_roots parts (length roots) (may_go g roots limit) marks
  same_allowed marks =
      count_same (length roots) _ _
      (λ j l. any_below_same parts _ _ (λ i h. ap (λ t. marked marks i && t) (p.rows.near i j h l)))

  pub too_low_written : {before after : List ℕ} {r : Deficient}
      → SetWritten a.pieces.starts a.pieces.cuts a.pieces.members a.pieces.places parts a.rows a.assignment (length roots) before after r
      → DeficientWritten g roots limit (take parts a.assignment) before after r
  too_low_written w =
      record {
        bytes = w.bytes;
        written = rw p.pieces.parts_are at w.written;
        parts_are = w.parts_are ∙ ap (λ n. marked_parts n (take parts a.assignment)) (parts_count p.pieces);
        roots_are =
            w.roots_are ∙ same_allowed (take parts a.assignment)
            ∙ ap (λ n. allowed_roots n (length roots) (may_go g roots limit) (take parts a.assignment)) (parts_count p.pieces);
      }
