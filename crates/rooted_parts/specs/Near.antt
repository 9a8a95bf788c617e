-- The roots near each vertex and each part of a trial, as the bits of a word: bit j is root j's (document 01, step 5).
-- Assumes nothing.
use Rattle.std.specs.Prelude.{ℕ, ◌≤◌, ◌<◌, ◌≡◌, List, length, get_or}
use Rattle.std.proofs.Math.Option.{none}
use Rattle.lists.specs.Put.{OnlyFirst}
use Rattle.graph.specs.Graph.{Graph}
use Rattle.rules.specs.Distance.{distances as distances_from, is_within}
use Rattle.rules.specs.RootedTrial.{rooted_parts, may_go}
use Rattle.near.specs.Bits.{bit_at}
use Rattle.rooted_state.specs.Prepared.{LimitReady}

-- What is asked for the words of the vertices: the distances from the roots at a limit, and a word of zero for each vertex.
pub record WithinAsked (g : Graph) (roots : List ℕ) (limit : ℕ) (distances words : List ℕ) : Type 0 where
  pub ready : LimitReady g roots limit distances
  pub room : g.vertices ≤ length words
  pub zeros : (v : ℕ) → v < length words → get_or words v 0 ≡ 0

-- The word of each vertex has the roots whose distance to it is at most the limit.
pub record VerticesNear (g : Graph) (roots : List ℕ) (limit : ℕ) (words : List ℕ) : Type 0 where
  pub each : (v j : ℕ) → v < g.vertices → j < length roots → bit_at j (get_or words v 0) ≡ is_within limit (get_or (distances_from g (get_or roots j 0)) v none)

-- The first words are the vertices', and what stands behind them is as it came.
pub record WithinDone (g : Graph) (roots : List ℕ) (limit : ℕ) (before after : List ℕ) : Type 0 where
  pub near : VerticesNear g roots limit after
  pub rest : OnlyFirst g.vertices before after

-- The word of each of the r parts has the roots to which it may go.
pub record PartsNear (g : Graph) (roots : List ℕ) (limit : ℕ) (words : List ℕ) (r : ℕ) : Type 0 where
  pub count : r ≡ length (rooted_parts g roots limit)
  pub within : r ≤ length words
  pub each : (i j : ℕ) → i < r → j < length roots → bit_at j (get_or words i 0) ≡ may_go g roots limit i j

-- The first words are the parts', and what stands behind them is as it came.
pub record PartsNearPut (g : Graph) (roots : List ℕ) (limit : ℕ) (before after : List ℕ) (r : ℕ) : Type 0 where
  pub near : PartsNear g roots limit after r
  pub rest : OnlyFirst r before after
