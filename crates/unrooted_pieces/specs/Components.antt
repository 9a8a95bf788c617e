-- The pieces of the components as trees (document 01, step 7): each starts at its lowest vertex, its edges rise, and a key says its order.
-- Assumes nothing.
use Rattle.std.specs.Prelude.{ℕ, ◌+◌, ◌*◌, ◌≤◌, ◌<◌, min, ◌≡◌, length, get_or}
use mathlib.Core.List.{List, foldr}
use Rattle.lists.specs.Put.{Put, OnlyFirst}
use Rattle.lists.specs.Segments.{segment}
use Rattle.lists.specs.Sort.{rise}
use Rattle.graph.specs.Graph.{Graph}
use Rattle.rules.specs.Cover.{Tree}
use Rattle.rules.specs.Split.{smallest_edge}
use Rattle.rules.specs.Distance.{tree_vertices}
use Rattle.rules.specs.Held.{tree_at}
use Rattle.cover.specs.Chosen.{IsHeld}
use Rattle.pieces.specs.Pieces.{tree_of}

-- The lowest vertex of a tree.
abbrev pub lowest_of : Graph → Tree → ℕ
lowest_of g t = foldr min t.start (tree_vertices g t)

-- A tree's key: "by start, then by smallest line".
abbrev pub key_of : Tree → ℕ
key_of t = t.start * 65536 + smallest_edge t

-- r is the lowest vertex of the tree with this start and these edges.
pub record LowestFound (g : Graph) (start : ℕ) (edges : List ℕ) (r : ℕ) : Type 0 where
  pub is : r ≡ lowest_of g (tree_of start edges)
  pub low : r ≤ start

-- The bounds of piece i are there, and its edges lie between them.
pub record PieceHeld (cuts members : List ℕ) (i : ℕ) : Type 0 where
  pub cut : i + 1 < length cuts
  pub held : IsHeld cuts members i

-- So are those of the first k pieces,
pub record PiecesHeld (cuts members : List ℕ) (k : ℕ) : Type 0 where
  pub cut : k < length cuts
  pub held : (i : ℕ) → i < k → IsHeld cuts members i

-- and their starts,
pub record PiecesGiven (starts cuts members : List ℕ) (k : ℕ) : Type 0 where
  pub pieces : PiecesHeld cuts members k
  pub starts_room : k ≤ length starts

-- and there is room for their keys.
pub record KeysAsked (starts cuts members : List ℕ) (k : ℕ) (keys : List ℕ) : Type 0 where
  pub given : PiecesGiven starts cuts members k
  pub room : k ≤ length keys

-- The edges of piece i rise now, and everything else is as it came.
pub record SegmentRisen (cuts : List ℕ) (i : ℕ) (before after : List ℕ) : Type 0 where
  pub put : Put (get_or cuts i 0) (rise (segment cuts before i)) before after

-- The edges of each of the first k pieces rise now, and what stands behind them is as it came.
pub record SegmentsRisen (cuts : List ℕ) (k : ℕ) (before after : List ℕ) : Type 0 where
  pub size : length after ≡ length before
  pub each : (i : ℕ) → i < k → segment cuts after i ≡ rise (segment cuts before i)
  pub rest : OnlyFirst (get_or cuts k 0) before after

-- Each of the first k pieces starts at its lowest vertex now; the other starts are as they came.
pub record LowestSet (g : Graph) (cuts members : List ℕ) (k : ℕ) (before after : List ℕ) : Type 0 where
  pub size : length after ≡ length before
  pub each : (i : ℕ) → i < k → get_or after i 0 ≡ lowest_of g (tree_at before cuts members i)
  pub rest : OnlyFirst k before after

-- The keys are those of the first k pieces.
pub record Keyed (starts cuts members : List ℕ) (k : ℕ) (keys : List ℕ) : Type 0 where
  pub each : (i : ℕ) → i < k → get_or keys i 0 ≡ key_of (tree_at starts cuts members i)

-- They were written, and nothing behind them.
pub record KeysWritten (starts cuts members : List ℕ) (k : ℕ) (before after : List ℕ) : Type 0 where
  pub keyed : Keyed starts cuts members k after
  pub rest : OnlyFirst k before after
