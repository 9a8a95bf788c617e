-- The pieces that arrays hold as trees, in the order in which they came.
-- Assumes nothing.
use Rattle.std.specs.Prelude.{ℕ, ◌+◌, ◌≤◌, ◌<◌, ◌≡◌, List, ◌++◌, map, length, get_or}
use Rattle.lists.specs.Count.{below}
use Rattle.lists.specs.Put.{OnlyFirst}
use Rattle.lists.specs.Segments.{Bounded}
use Rattle.rules.specs.Cover.{Tree}
use Rattle.rules.specs.Held.{trees_at, risen}
use Rattle.bunches.specs.declared.Progress.{Progress}

-- The starts, the bounds of each piece's edges, all edges one piece after the other, how many pieces there are, and how many edges in them.
pub record Store : Type 0 where
  pub starts : List ℕ
  pub cuts : List ℕ
  pub members : List ℕ
  pub pieces : ℕ
  pub used : ℕ

-- The arrays, with the numbers of the code's progress.
abbrev pub store_of : List ℕ → List ℕ → List ℕ → Progress → Store
store_of starts cuts members p = record { starts = starts; cuts = cuts; members = members; pieces = p.pieces; used = p.used }

-- The pieces held, each as a tree with its edges by rising number.
unfoldable pub held_in : Store → List Tree
held_in s = map risen (trees_at s.starts s.cuts s.members (below s.pieces))

-- Of n vertices: the starts are vertices, the bounds are those of the pieces, there is room for n edges,
-- and for a piece of each of the edges that may still come.
pub record Sound (n : ℕ) (s : Store) : Type 0 where
  pub few : n ≤ 256
  pub starts_room : s.pieces + n ≤ s.used + length s.starts
  pub cuts_room : s.pieces + n < s.used + length s.cuts
  pub members_room : n ≤ length s.members
  pub used_few : s.used ≤ n
  pub starts_inside : (i : ℕ) → i < s.pieces → get_or s.starts i 0 < n
  pub first : get_or s.cuts 0 0 ≡ 0
  pub bounded : Bounded s.cuts s.pieces s.used

-- From s to t no more pieces were added than edges in them: each has an edge.
abbrev pub EdgeEach : Store → Store → Type 0
EdgeEach s t = t.pieces + s.used ≤ s.pieces + t.used

-- From s to t these trees were added behind those that were held, and what the arrays have beyond them is as it was.
pub record Added (n : ℕ) (trees : List Tree) (s t : Store) : Type 0 where
  pub sound : Sound n t
  pub held : held_in t ≡ held_in s ++ trees
  pub pieces_more : t.pieces ≡ s.pieces + length trees
  pub used_more : s.used ≤ t.used
  pub starts_rest : OnlyFirst t.pieces s.starts t.starts
  pub cuts_rest : OnlyFirst (t.pieces + 1) s.cuts t.cuts
  pub members_rest : OnlyFirst t.used s.members t.members
