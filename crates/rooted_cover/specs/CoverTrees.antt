-- The trees of an accepted rooted trial, laid one after the other and written (document 01, step 6).
-- Assumes nothing.
use Rattle.std.specs.Prelude.{ℕ, ◌+◌, ◌*◌, ◌≤◌, ◌<◌, ◌≡◌, true, List, ◌++◌, length, get_or, take}
use Rattle.lists.specs.Put.{Put, PutTo, OnlyFirst}
use Rattle.lists.specs.Segments.{segment, Bounded}
use Rattle.graph.specs.Graph.{Graph}
use Rattle.graph.specs.Valid.{Valid}
use Rattle.rules.specs.Cover.{heaviest}
use Rattle.rules.specs.CoverBytes.{encode}
use Rattle.rules.specs.RootedTrial.{Choices, GoodChoices, union_tree, rooted_cover}
use Rattle.rules.specs.Questions.{most_limit}
use Rattle.distance_table.specs.Tabled.{row_of}
use Rattle.rooted_state.specs.Placed.{PieceArrays, arrays_of, PartsPlaced, CoverReady}
use Rattle.rooted_cover.specs.Tree.{AssignedAre, RootGiven}

-- The edges are those of root j's tree: of the union of its part, a path back from one of the part's nearest vertices, and what is left at the
-- root; where it has no part, of what is left there.
pub record RootTree (g : Graph) (distances lasts roots : List ℕ) (a : PieceArrays) (assignment : List ℕ) (j : ℕ) (tree : List ℕ) : Type 0 where
  pub edges : List ℕ
  pub assigned : AssignedAre g (row_of g.vertices distances j) (row_of g.vertices lasts j) (get_or roots j 0) a.starts a.cuts a.members a.places assignment j edges
  pub is : tree ≡ (union_tree g (get_or roots j 0) (edges ++ segment a.cuts a.members (get_or a.lefts j 0))).edges

-- What the trees of all roots ask: a valid graph, a row of distances and of last edges for each root, and of each what its tree asks, wherever there
-- is room for an edge of each vertex.
pub record RootTreesGiven (g : Graph) (order distances lasts roots : List ℕ) (a : PieceArrays) (assignment : List ℕ) : Type 0 where
  pub valid : Valid g
  pub distances_room : length roots * g.vertices ≤ length distances
  pub last_room : length roots * g.vertices ≤ length lasts
  pub each : (j : ℕ) → j < length roots → (room : List ℕ) → g.vertices ≤ length room
      → RootGiven g order (row_of g.vertices distances j) (row_of g.vertices lasts j) (get_or roots j 0) a.starts a.cuts a.members
      (get_or a.lefts j 0) a.places assignment j room

-- What putting root j's tree behind the others asks besides: one of the roots, and room behind them.
pub record TreeGivenAt (g : Graph) (order distances lasts roots : List ℕ) (a : PieceArrays) (assignment : List ℕ) (j at room : ℕ) : Type 0 where
  pub given : RootTreesGiven g order distances lasts roots a assignment
  pub root : j < length roots
  pub fits : at + g.vertices ≤ room

-- Root j's tree was put there; it has fewer edges than there are vertices.
pub record TreePut (g : Graph) (distances lasts roots : List ℕ) (a : PieceArrays) (assignment : List ℕ) (j at : ℕ) (before after : List ℕ) (r : ℕ) : Type 0 where
  pub tree : List ℕ
  pub is_tree : RootTree g distances lasts roots a assignment j tree
  pub put : PutTo at tree before after r
  pub fewer : r < at + g.vertices

-- What laying the trees of all roots asks: at most 32 roots, and for each room for an edge of each vertex.
pub record LayRootsGiven (g : Graph) (order distances lasts roots : List ℕ) (a : PieceArrays) (assignment : List ℕ) (bounds_room edges_room : ℕ) : Type 0 where
  pub given : RootTreesGiven g order distances lasts roots a assignment
  pub few : length roots ≤ 32
  pub bounds_fit : 33 ≤ bounds_room
  pub edges_fit : length roots * g.vertices ≤ edges_room

-- The trees of the first i roots are laid: they take up the array's elements before `used`.
pub record TreesLaid (g : Graph) (distances lasts roots : List ℕ) (a : PieceArrays) (assignment : List ℕ) (i used : ℕ) (bounds edges : List ℕ) : Type 0 where
  pub bounded : Bounded bounds i used
  pub inside : used ≤ length edges
  pub are : (h : ℕ) → h < i → RootTree g distances lasts roots a assignment h (segment bounds edges h)

-- The trees of all roots are laid. Of the bounds one more than there are roots may have changed, of the edges one for each vertex and each root.
pub record RootsLaid (g : Graph) (distances lasts roots : List ℕ) (a : PieceArrays) (assignment bounds bounds_after edges edges_after : List ℕ) : Type 0 where
  pub laid : TreesLaid g distances lasts roots a assignment (length roots) (get_or bounds_after (length roots) 0) bounds_after edges_after
  pub bounds_rest : OnlyFirst (length roots + 1) bounds bounds_after
  pub edges_rest : OnlyFirst (length roots * g.vertices) edges edges_after

-- The arrays without the places behind the parts'.
abbrev pub parts_of : ℕ → PieceArrays → PieceArrays
parts_of parts a = arrays_of a.starts a.cuts a.members a.lefts (take parts a.places)

-- What writing the cover asks: what a cover is made by at some limit, and the parts placed there with an assignment of them.
pub record CoverAsked (g : Graph) (order distances lasts roots : List ℕ) (a : PieceArrays) (parts : ℕ) (assignment : List ℕ) (edges_room room : ℕ) : Type 0 where
  pub limit : ℕ
  pub rows : List ℕ
  pub ready : CoverReady g roots limit order distances lasts edges_room room
  pub placed : PartsPlaced g roots limit (record { pieces = a; rows = rows; assignment = assignment }) parts true

-- The bytes of the cover that the trial makes of some good choices are the buffer's first bytes, and r is the weight of its heaviest tree.
pub record CoverWritten (g : Graph) (roots : List ℕ) (limit : ℕ) (before after : List ℕ) (r : ℕ) : Type 0 where
  pub choices : Choices
  pub good : GoodChoices g roots limit choices
  pub put : Put 0 (encode (rooted_cover g roots limit choices)) before after
  pub heaviest_is : r ≡ heaviest g (rooted_cover g roots limit choices)

-- So at every limit at which the parts are placed as they are.
pub record CoverAtLimits (g : Graph) (roots : List ℕ) (a : PieceArrays) (parts : ℕ) (assignment before after : List ℕ) (r : ℕ) : Type 0 where
  pub at_limit : (limit : ℕ) (rows : List ℕ) → limit ≤ most_limit
      → PartsPlaced g roots limit (record { pieces = a; rows = rows; assignment = assignment }) parts true → CoverWritten g roots limit before after r

-- The same, with the array that the trees' edges were laid in: behind one element for each vertex and each root it is as it came.
pub record RootedWritten (g : Graph) (roots : List ℕ) (a : PieceArrays) (parts : ℕ) (assignment edges edges_after before after : List ℕ) (r : ℕ) : Type 0 where
  pub cover : CoverAtLimits g roots a parts assignment before after r
  pub edges_rest : OnlyFirst (length roots * g.vertices) edges edges_after
