-- The roots near each of several trees that three arrays hold.
-- Assumes nothing.
use Rattle.std.specs.Prelude.{ℕ, ◌≤◌, ◌<◌, ◌≡◌, List, length, get_or}
use Rattle.lists.specs.Lists.{any}
use Rattle.lists.specs.Put.{OnlyFirst}
use Rattle.graph.specs.Graph.{Graph}
use Rattle.graph.specs.Valid.{Valid}
use Rattle.rules.specs.Cover.{Tree}
use Rattle.rules.specs.Distance.{tree_vertices}
use Rattle.rules.specs.Held.{tree_at}
use Rattle.cover.specs.Chosen.{IsHeld}
use Rattle.near.specs.Bits.{bit_at}

-- What is asked of the words: a valid graph, and a word for each of its vertices.
pub record WordsGiven (g : Graph) (near : List ℕ) : Type 0 where
  pub valid : Valid g
  pub room : g.vertices ≤ length near

-- What looking at one tree asks besides: it starts at one of them.
pub record PieceAsked (g : Graph) (near : List ℕ) (start : ℕ) : Type 0 where
  pub given : WordsGiven g near
  pub start_inside : start < g.vertices

-- The word of a tree has a root exactly where the word of one of its vertices has it.
pub record NearTree (g : Graph) (near : List ℕ) (t : Tree) (word : ℕ) : Type 0 where
  pub each : (j : ℕ) → bit_at j word ≡ any (λ v. bit_at j (get_or near v 0)) (tree_vertices g t)

-- Tree c stands in the arrays, and starts at one of n vertices.
pub record TreeHeld (n : ℕ) (starts cuts members : List ℕ) (c : ℕ) : Type 0 where
  pub held : IsHeld cuts members c
  pub start_inside : get_or starts c 0 < n

-- What looking at several asks: each place's tree, and room for a word for each.
pub record NearPiecesAsked (g : Graph) (near starts cuts members places words : List ℕ) : Type 0 where
  pub given : WordsGiven g near
  pub trees : (i : ℕ) → i < length places → TreeHeld g.vertices starts cuts members (get_or places i 0)
  pub words_room : length places ≤ length words

-- The first words are the trees', in the order of their places.
pub record NearPieces (g : Graph) (near starts cuts members places before after : List ℕ) : Type 0 where
  pub each : (i : ℕ) → i < length places → NearTree g near (tree_at starts cuts members (get_or places i 0)) (get_or after i 0)
  pub rest : OnlyFirst (length places) before after
