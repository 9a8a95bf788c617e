-- What placing the parts of a rooted trial asks, step by step: the pieces, the rows of marks, and the assignment.
-- Assumes nothing.
use Rattle.std.specs.Prelude.{ℕ, ◌+◌, ◌*◌, ◌≤◌, ◌<◌, ◌≡◌, Bool, true, false, List, length, get_or, take}
use Rattle.std.proofs.Math.Option.{none}
use Rattle.lists.specs.Count.{below}
use Rattle.lists.specs.Put.{OnlyFirst}
use Rattle.graph.specs.Graph.{Graph}
use Rattle.matching.specs.Assignment.{IsAssignment, IsDeficient}
use Rattle.matching.specs.Assignable.{assignable}
use Rattle.matching.specs.Input.{allowed_at}
use Rattle.rules.specs.RootedTrial.{unjoined_at}
use Rattle.rooted_state.specs.Prepared.{RootsGiven, WholeAround, LimitReady}
use Rattle.rooted_state.specs.Placed.{PieceArrays, arrays_of, TrialArrays, PiecesPlaced, RowsAssigned, PartsPlaced}

-- What is asked for the pieces: the arcs of the whole forest, which joins every vertex to a root within the limit; and room.
pub record PiecesAsked (g : Graph) (roots : List ℕ) (limit : ℕ) (bounds arcs : List ℕ) (a : PieceArrays) : Type 0 where
  pub given : RootsGiven g roots
  pub around : WholeAround g roots bounds arcs
  pub joined : unjoined_at g roots limit ≡ none
  pub starts_room : g.vertices + length roots ≤ length a.starts
  pub cuts_room : g.vertices + length roots < length a.cuts
  pub members_room : g.vertices ≤ length a.members
  pub lefts_room : length roots ≤ length a.lefts
  pub places_room : g.vertices ≤ length a.places

-- Behind the pieces of n vertices and k roots, and behind the places of the parts, the arrays are as they came.
pub record PiecesRest (n k parts : ℕ) (a z : PieceArrays) : Type 0 where
  pub starts_rest : OnlyFirst (n + k) a.starts z.starts
  pub cuts_rest : OnlyFirst (n + k) a.cuts z.cuts
  pub members_rest : OnlyFirst n a.members z.members
  pub lefts_rest : OnlyFirst k a.lefts z.lefts
  pub places_rest : OnlyFirst parts a.places z.places

-- The pieces are placed, in arrays that were a.
pub record PiecesPut (g : Graph) (roots : List ℕ) (limit : ℕ) (a z : PieceArrays) (parts : ℕ) : Type 0 where
  pub placed : PiecesPlaced g roots limit z parts
  pub rest : PiecesRest g.vertices (length roots) parts a z

-- What an assignment that is not refused asks: at most 255 parts, 1 to 32 roots, a byte of 0 or 1 for each part and root, and room.
pub record AssignAsked (p k : ℕ) (rows assignment : List ℕ) : Type 0 where
  pub parts_few : p ≤ 255
  pub roots_some : 1 ≤ k
  pub roots_few : k ≤ 32
  pub sized : length rows ≡ p * k
  pub ones : (x : ℕ) → x < length rows → get_or rows x 0 ≤ 1
  pub room : p ≤ length assignment

-- Whether an assignment exists; and it is written, or else the marks of a deficient set. What stands behind them is as it came.
pub record AssignDone (p k : ℕ) (rows before after : List ℕ) (r : Bool) : Type 0 where
  pub is : r ≡ assignable (allowed_at rows k) (below p) (below k)
  pub is_assignment : r ≡ true → IsAssignment p k (allowed_at rows k) (take p after)
  pub deficient : r ≡ false → IsDeficient p k (allowed_at rows k) (take p after)
  pub rest : OnlyFirst p before after

-- The parts of a trial stand in the arrays, beside the distances from all roots.
pub record PartsHeld (g : Graph) (roots : List ℕ) (limit : ℕ) (distances starts cuts members places : List ℕ) (parts : ℕ) : Type 0 where
  pub ready : LimitReady g roots limit distances
  pub lefts : List ℕ
  pub placed : PiecesPlaced g roots limit (arrays_of starts cuts members lefts places) parts

-- What marking the roots near them asks besides: a word for each part.
pub record WordsAsked (g : Graph) (roots : List ℕ) (limit : ℕ) (distances starts cuts members places : List ℕ) (parts : ℕ) (words : List ℕ) : Type 0 where
  pub held : PartsHeld g roots limit distances starts cuts members places parts
  pub words_room : parts ≤ length words

-- What making their rows and assigning them asks besides: room for a row for each part, and a byte for each.
pub record RowsAsked (g : Graph) (roots : List ℕ) (limit : ℕ) (distances starts cuts members places : List ℕ) (parts : ℕ) (rows assignment : List ℕ) : Type 0 where
  pub held : PartsHeld g roots limit distances starts cuts members places parts
  pub rows_room : parts * length roots ≤ length rows
  pub assignment_room : parts ≤ length assignment

-- What placing the parts asks besides the pieces: the distances from all roots, a limit no larger than document 01 has it, room for a row for each
-- part, and a byte for each.
pub record PartsAsked (g : Graph) (roots : List ℕ) (limit : ℕ) (bounds arcs distances : List ℕ) (a : PieceArrays) (rows assignment : List ℕ) : Type 0 where
  pub pieces : PiecesAsked g roots limit bounds arcs a
  pub ready : LimitReady g roots limit distances
  pub rows_room : g.vertices * length roots ≤ length rows
  pub assignment_room : g.vertices ≤ length assignment

-- The rows are made and the parts assigned. What stands behind a row and a byte for each part is as it came.
pub record RowsPlaced (g : Graph) (roots : List ℕ) (limit parts : ℕ) (rows₀ rows assignment₀ assignment : List ℕ) (assigned : Bool) : Type 0 where
  pub placed : RowsAssigned g roots limit parts rows assignment assigned
  pub rows_rest : OnlyFirst (parts * length roots) rows₀ rows
  pub assignment_rest : OnlyFirst parts assignment₀ assignment

-- The parts are placed, in arrays that were a: what stands behind the pieces, the places, the rows and the bytes is as it came.
pub record PartsPut (g : Graph) (roots : List ℕ) (limit : ℕ) (a z : TrialArrays) (parts : ℕ) (assigned : Bool) : Type 0 where
  pub placed : PartsPlaced g roots limit z parts assigned
  pub pieces_rest : PiecesRest g.vertices (length roots) parts a.pieces z.pieces
  pub rows_rest : OnlyFirst (parts * length roots) a.rows z.rows
  pub assignment_rest : OnlyFirst parts a.assignment z.assignment
