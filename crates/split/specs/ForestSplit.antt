-- What splitting a forest asks and promises.
-- Assumes nothing.
use Rattle.std.specs.Prelude.{ℕ, ◌+◌, ◌-◌, ◌≤◌, ◌<◌, ◌≡◌, List, map, length, get_or}
use Rattle.lists.specs.Count.{below}
use Rattle.lists.specs.Member.{◌∈◌}
use Rattle.lists.specs.Put.{PutTo, OnlyFirst}
use Rattle.lists.specs.Scratch.{Scratch}
use Rattle.lists.specs.Segments.{Bounded}
use Rattle.graph.specs.Graph.{Graph}
use Rattle.rules.specs.Held.{trees_at, risen}
use Rattle.rules.specs.Grow.{grow}
use Rattle.rules.specs.Split.{split}
use Rattle.edges.specs.Around.{Arcs, Around}
use Rattle.split.specs.Pieces.{pieces_of, left_places}

-- The arrays that are lent: the starts, the bounds and the edges of the pieces, and the number of each root's leftover.
pub record Lent : Type 0 where
  pub starts : List ℕ
  pub cuts : List ℕ
  pub members : List ℕ
  pub lefts : List ℕ

-- The same, array by array.
abbrev pub lent : List ℕ → List ℕ → List ℕ → List ℕ → Lent
lent starts cuts members lefts = record { starts = starts; cuts = cuts; members = members; lefts = lefts }

-- What is asked: the arcs are those of n vertices, the roots are vertices and not too many, and there is room for a piece and an edge
-- for each vertex, and for a piece and its number for each root.
pub record Splittable (n : ℕ) (bounds arcs roots : List ℕ) (a : Lent) : Type 0 where
  pub around : Arcs n bounds arcs
  pub roots_inside : (j : ℕ) → j < length roots → get_or roots j 0 < n
  pub roots_few : length roots ≤ 256
  pub starts_room : n + length roots ≤ length a.starts
  pub cuts_room : n + length roots < length a.cuts
  pub members_room : n ≤ length a.members
  pub lefts_room : length roots ≤ length a.lefts

-- The same, where there is a mark and a place on the stack for each vertex, and no mark is set.
pub record Unwalked (bounds arcs roots marks stack : List ℕ) (a : Lent) : Type 0 where
  pub splittable : Splittable (length stack) bounds arcs roots a
  pub marks_length : length marks ≡ length stack
  pub none_marked : (v : ℕ) → v < length stack → get_or marks v 0 ≡ 0

-- What is promised where the arrays hold the edges around each vertex of a graph, over the edges of a forest:
-- the r pieces are those that the rules make, `lefts` has the number of each root's leftover, and all edges in the pieces are the forest's.
pub record Splits (g : Graph) (edges roots : List ℕ) (H : ℕ) (a z : Lent) (r used : ℕ) : Type 0 where
  pub pieces : map risen (trees_at z.starts z.cuts z.members (below r)) ≡ pieces_of g H edges roots
  pub lefts : PutTo 0 (left_places 0 (map (split g H) (grow g edges roots))) a.lefts z.lefts (length roots)
  pub edges_of_lem : (i : ℕ) → i < used → get_or z.members i 0 ∈ edges

-- What is promised of the arrays at the end, z, which were a, and of the answer r, the number of pieces:
-- `used`: how many edges are in the pieces, fewer than there are vertices;
-- `of_graph`: what the pieces are, whatever graph's forest the arcs are of;
-- `bounded`, `first`: the bounds rise from 0, and end where the edges do;
-- the others: what the arrays have beyond what is used is as it came.
pub record ForestSplit (n : ℕ) (bounds arcs roots : List ℕ) (H : ℕ) (a z : Lent) (r : ℕ) : Type 0 where
  pub used : ℕ
  pub of_graph : (g : Graph) (edges : List ℕ) → Around g edges bounds arcs → g.vertices ≡ n → Splits g edges roots H a z r used
  pub used_few : used ≤ n - 1
  pub few : r ≤ used + length roots
  pub starts_inside : (i : ℕ) → i < r → get_or z.starts i 0 < n
  pub first : get_or z.cuts 0 0 ≡ 0
  pub bounded : Bounded z.cuts r used
  pub starts_rest : OnlyFirst r a.starts z.starts
  pub cuts_rest : OnlyFirst (r + 1) a.cuts z.cuts
  pub members_rest : OnlyFirst used a.members z.members
  pub lefts_rest : OnlyFirst (length roots) a.lefts z.lefts

-- The same, where marks and a stack are lent besides, as scratch.
pub record RootsWalked (bounds arcs roots : List ℕ) (H : ℕ) (marks marks_after stack stack_after : List ℕ) (a z : Lent) (r : ℕ) : Type 0 where
  pub split : ForestSplit (length stack) bounds arcs roots H a z r
  pub marks_scratch : Scratch marks marks_after
  pub stack_scratch : Scratch stack stack_after
