-- The parts of a rooted trial, placed: the arrays hold the pieces of the trial, the rows say which roots are near each part, and an
-- assignment or a deficient set was found (document 01, steps 4 and 5).
-- Assumes nothing.
use Rattle.std.specs.Prelude.{ℕ, ◌*◌, ◌≤◌, ◌<◌, ◌≡◌, Bool, true, false, List, map, length, get_or, take}
use Rattle.lists.specs.Member.{◌∈◌}
use Rattle.lists.specs.Segments.{segment}
use Rattle.lists.specs.Sort.{rise}
use Rattle.graph.specs.Graph.{Graph}
use Rattle.matching.specs.Assignment.{IsAssignment, IsDeficient}
use Rattle.matching.specs.Input.{allowed_at}
use Rattle.rules.specs.Held.{trees_at, risen}
use Rattle.rules.specs.Order.{ordered}
use Rattle.rules.specs.RootedTrial.{rooted_pieces, rooted_parts, left_at, may_go, is_assignable}
use Rattle.rules.specs.Questions.{least_room}
use Rattle.cover.specs.Chosen.{IsHeld, AllHeld}
use Rattle.distance_table.specs.Tabled.{LastsTabled}
use Rattle.rooted_state.specs.Prepared.{LimitReady}

-- The arrays of the pieces: their starts, bounds and edges, the number of each root's leftover, and the number of each part's piece.
pub record PieceArrays : Type 0 where
  pub starts : List ℕ
  pub cuts : List ℕ
  pub members : List ℕ
  pub lefts : List ℕ
  pub places : List ℕ

abbrev pub arrays_of : List ℕ → List ℕ → List ℕ → List ℕ → List ℕ → PieceArrays
arrays_of starts cuts members lefts places = record { starts = starts; cuts = cuts; members = members; lefts = lefts; places = places }

-- The arrays of a rooted trial: the pieces; for each part a row of marks, 1 where a root is near; and what the assignment wrote, a byte for each
-- part.
pub record TrialArrays : Type 0 where
  pub pieces : PieceArrays
  pub rows : List ℕ
  pub assignment : List ℕ

-- The same, array by array.
abbrev pub trial_arrays : List ℕ → List ℕ → List ℕ → List ℕ → List ℕ → List ℕ → List ℕ → TrialArrays
trial_arrays starts cuts members lefts places rows assignment = record { pieces = arrays_of starts cuts members lefts places; rows = rows; assignment = assignment }

-- The arrays hold the trial's pieces, `parts` of them parts.
pub record PiecesPlaced (g : Graph) (roots : List ℕ) (limit : ℕ) (a : PieceArrays) (parts : ℕ) : Type 0 where
  pub parts_are : map risen (trees_at a.starts a.cuts a.members (take parts a.places)) ≡ rooted_parts g roots limit
  pub parts_room : parts ≤ length a.places
  pub parts_held : AllHeld a.cuts a.members (take parts a.places)
  pub starts_inside : (c : ℕ) → c ∈ take parts a.places → get_or a.starts c 0 < g.vertices
  pub lefts_are : (j : ℕ) → j < length roots → rise (segment a.cuts a.members (get_or a.lefts j 0)) ≡ rise (left_at (rooted_pieces g roots limit) j)
  pub lefts_held : (j : ℕ) → j < length roots → IsHeld a.cuts a.members (get_or a.lefts j 0)

-- The rows say which roots are near each part, and an assignment was found or else a deficient set.
pub record RowsAssigned (g : Graph) (roots : List ℕ) (limit parts : ℕ) (rows assignment : List ℕ) (assigned : Bool) : Type 0 where
  pub near : (i j : ℕ) → i < parts → j < length roots → allowed_at rows (length roots) i j ≡ may_go g roots limit i j
  pub assigned_is : assigned ≡ is_assignable g roots limit
  pub is_assignment : assigned ≡ true → IsAssignment parts (length roots) (may_go g roots limit) (take parts assignment)
  pub deficient : assigned ≡ false → IsDeficient parts (length roots) (may_go g roots limit) (take parts assignment)

-- The parts are placed: both.
pub record PartsPlaced (g : Graph) (roots : List ℕ) (limit : ℕ) (a : TrialArrays) (parts : ℕ) (assigned : Bool) : Type 0 where
  pub pieces : PiecesPlaced g roots limit a.pieces parts
  pub rows : RowsAssigned g roots limit parts a.rows a.assignment assigned

-- What a cover is made by, beside the parts: the edges in order, the distances from the roots with their last edges, a limit, for each root room for
-- an edge of each vertex, and a large buffer.
pub record CoverReady (g : Graph) (roots : List ℕ) (limit : ℕ) (order distances lasts : List ℕ) (edges_room room : ℕ) : Type 0 where
  pub ready : LimitReady g roots limit distances
  pub in_order : order ≡ ordered g
  pub last_edges : LastsTabled g roots distances lasts
  pub edges_fit : length roots * g.vertices ≤ edges_room
  pub most : least_room ≤ room
