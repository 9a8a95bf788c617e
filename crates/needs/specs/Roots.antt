-- The lowest vertex of each component, and what is asked for these.
-- Assumes nothing.
use Rattle.std.specs.Prelude.{ℕ, ◌≤◌, ◌≡◌, List, length}
use Rattle.lists.specs.Put.{PutTo}
use Rattle.graph.specs.Graph.{Graph}
use Rattle.graph.specs.Valid.{Valid}
use Rattle.rules.specs.Labels.{apart, merge_all}
use Rattle.rules.specs.Forest.{forest, labels_at, lowest}

-- A valid graph, and room for each vertex.
pub record RootsAsked (g : Graph) (roots : List ℕ) : Type 0 where
  pub valid : Valid g
  pub room : g.vertices ≤ length roots

-- The lowest vertex of each component that the edges make was written, rising. Where the edges are the forest at a limit, these are the
-- components there, each "rooted at its lowest stop".
pub record RootsWritten (g : Graph) (edges before after : List ℕ) (r : ℕ) : Type 0 where
  pub few : r ≤ g.vertices
  pub are : PutTo 0 (lowest g (merge_all g apart edges)) before after r
  pub at_limit : (limit : ℕ) → edges ≡ forest g apart limit → PutTo 0 (lowest g (labels_at g apart limit)) before after r
