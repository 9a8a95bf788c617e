-- The tree of one root: what is marked of its union, and what is kept (document 01, step 6).
-- Assumes nothing.
use Rattle.std.specs.Prelude.{ℕ, ◌+◌, ◌^◌, ◌≤◌, ◌<◌, ◌≡◌, List, [], ◌++◌, length, get_or}
use Rattle.lists.specs.Lists.{filter, member}
use Rattle.lists.specs.Member.{◌∈◌}
use Rattle.lists.specs.Put.{PutTo}
use Rattle.lists.specs.Segments.{segment}
use Rattle.lists.specs.Sort.{rise}
use Rattle.graph.specs.Graph.{Graph}
use Rattle.graph.specs.Valid.{Valid}
use Rattle.matching.specs.Assignment.{marked}
use Rattle.rules.specs.Order.{ordered}
use Rattle.rules.specs.Labels.{apart}
use Rattle.rules.specs.Forest.{keep}
use Rattle.rules.specs.RootedTrial.{union_tree}
use Rattle.distance.specs.Trail.{trail_of, CanGoBack}
use Rattle.cover.specs.Chosen.{IsHeld, AllHeld}
use Rattle.pieces.specs.Pieces.{tree_of}
use Rattle.edges.specs.Marked.{Marked}
use Rattle.distance_table.specs.Nearest.{NearestGiven, Nearest}

-- r is the first place below the bound where j stands, or the bound where it stands at none.
pub record FirstWith (bytes : List ℕ) (bound j r : ℕ) : Type 0 where
  pub within : r ≤ bound
  pub earlier : (i : ℕ) → i < r → get_or bytes i 0 ≡ j → ⊥
  pub here : r < bound → get_or bytes r 0 ≡ j

-- The edges of a list were marked, and r is how many they are, no more than a bound.
pub record EdgesMarked (edges before after : List ℕ) (bound r : ℕ) : Type 0 where
  pub marks : Marked (λ e. member e edges) before after
  pub count : r ≡ length edges
  pub within : r ≤ bound

-- How many edges a piece in an array may have, and the longest path.
abbrev pub most_in_piece : ℕ
most_in_piece = 2 ^ 62

abbrev pub most_on_path : ℕ
most_on_path = 256

-- What marking a piece asks: it is held, and each of its edges has a mark.
pub record PieceGiven (cuts members : List ℕ) (c room : ℕ) : Type 0 where
  pub held : IsHeld cuts members c
  pub marks : (e : ℕ) → e ∈ segment cuts members c → e < room

-- What marking a path asks: there is a trail of at most 256 edges, and each of them has a mark.
pub record BackGiven (last : List ℕ) (root v room : ℕ) : Type 0 where
  pub trail : CanGoBack last root v 256
  pub marks : (e : ℕ) → e ∈ trail_of last root v → e < room

-- What keeping a tree's edges asks: a valid graph, its edges in order, and room for an edge of each vertex.
pub record TreeAsked (g : Graph) (order tree : List ℕ) : Type 0 where
  pub valid : Valid g
  pub in_order : order ≡ ordered g
  pub room : g.vertices ≤ length tree

-- The same, where the edges to keep are marked, and no more of them than are said.
pub record KeepAsked (g : Graph) (order marks tree : List ℕ) (most : ℕ) : Type 0 where
  pub asked : TreeAsked g order tree
  pub few : length (filter (marked marks) (ordered g)) ≤ most

-- The marked edges were kept, and stand by rising number at the front of the array, r of them.
pub record TreeKept (g : Graph) (marks before after : List ℕ) (r : ℕ) : Type 0 where
  pub kept : PutTo 0 (rise (keep g apart (filter (marked marks) (ordered g)))) before after r
  pub fewer : r < g.vertices

-- What marking a part and the path to it asks: the distances from the root, a mark for each of the part's edges, and a path back from whichever
-- of the part's vertices is nearest.
pub record ReachGiven (g : Graph) (dist last : List ℕ) (root start : ℕ) (edges : List ℕ) (room : ℕ) : Type 0 where
  pub part : NearestGiven g dist start
  pub marks : (e : ℕ) → e ∈ edges → e < room
  pub back : (v : ℕ) → Nearest g dist (tree_of start edges) v → BackGiven last root v room

-- The edges of the part were marked, and of the path back from one of its nearest vertices.
pub record ReachMarked (g : Graph) (dist last : List ℕ) (root start : ℕ) (edges before after : List ℕ) (r : ℕ) : Type 0 where
  pub vertex : ℕ
  pub nearest : Nearest g dist (tree_of start edges) vertex
  pub marks : EdgesMarked (edges ++ trail_of last root vertex) before after (most_in_piece + most_on_path) r

-- What marking root j's part asks: a byte for each place, pieces that are held, and, at a place whose byte is j, a piece that may be marked
-- with the path to it. Of other places nothing is asked: no path need lead to them.
pub record AssignedGiven (g : Graph) (dist last : List ℕ) (root : ℕ) (starts cuts members places assignment : List ℕ) (j room : ℕ) : Type 0 where
  pub bytes : length places ≤ length assignment
  pub held : AllHeld cuts members places
  pub reach : (i : ℕ) → i < length places → get_or assignment i 0 ≡ j
      → ReachGiven g dist last root (get_or starts (get_or places i 0) 0) (segment cuts members (get_or places i 0)) room

-- The edges of root j's part and of a path back from one of its nearest vertices; none where j stands at no place.
pub data AssignedAre (g : Graph) (dist last : List ℕ) (root : ℕ) (starts cuts members places assignment : List ℕ) (j : ℕ) (edges : List ℕ) : Type 0 where
  none : ((i : ℕ) → i < length places → get_or assignment i 0 ≡ j → ⊥) → edges ≡ [] → AssignedAre g dist last root starts cuts members places assignment j edges
  part : (i v : ℕ) → i < length places → FirstWith assignment (length places) j i
      → Nearest g dist (tree_of (get_or starts (get_or places i 0) 0) (segment cuts members (get_or places i 0))) v
      → edges ≡ segment cuts members (get_or places i 0) ++ trail_of last root v → AssignedAre g dist last root starts cuts members places assignment j edges

-- Those edges were marked.
pub record AssignedMarked (g : Graph) (dist last : List ℕ) (root : ℕ) (starts cuts members places assignment : List ℕ) (j : ℕ) (before after : List ℕ) (r : ℕ) : Type 0 where
  pub edges : List ℕ
  pub are : AssignedAre g dist last root starts cuts members places assignment j edges
  pub marks : EdgesMarked edges before after (most_in_piece + most_on_path) r

-- What a root's tree asks: the graph and its order, a piece left at the root, and parts that may be marked.
pub record RootGiven (g : Graph) (order dist last : List ℕ) (root : ℕ) (starts cuts members : List ℕ) (left : ℕ) (places assignment : List ℕ) (j : ℕ) (tree : List ℕ) : Type 0 where
  pub asked : TreeAsked g order tree
  pub piece : PieceGiven cuts members left 2048
  pub assigned : AssignedGiven g dist last root starts cuts members places assignment j 2048

-- The tree of the union was written.
pub record RootWritten (g : Graph) (dist last : List ℕ) (root : ℕ) (starts cuts members : List ℕ) (left : ℕ) (places assignment : List ℕ) (j : ℕ)
    (before after : List ℕ) (r : ℕ) : Type 0 where
  pub edges : List ℕ
  pub assigned : AssignedAre g dist last root starts cuts members places assignment j edges
  pub written : PutTo 0 (union_tree g root (edges ++ segment cuts members left)).edges before after r
  pub fewer : r < g.vertices
