-- The node walk and the child-list walk: what they ask and promise. The bunch of a node stands on the stack from `base` on.
-- Assumes nothing.
use Rattle.std.specs.Prelude.{ℕ, ◌+◌, ◌-◌, ◌≤◌, ◌<◌, ◌≡◌, List, length, take}
use Rattle.lists.specs.Put.{OnlyFirst}
use Rattle.lists.specs.Segments.{segment}
use Rattle.rules.specs.Cover.{Tree}
use Rattle.edges.specs.Around.{Arcs}
use Rattle.bunches.specs.Store.{Store, store_of, Sound, EdgeEach, Added}
use Rattle.bunches.specs.Settles.{stacked, WithinEdges}
use Rattle.bunches.specs.declared.Progress.{Progress}
use Rattle.split.specs.SplitBelow.{unvisited, SplitBelow}

-- What the walks alter: the marks, the stack and its top, and the pieces.
pub record State : Type 0 where
  pub marks : List ℕ
  pub stack : List ℕ
  pub top : ℕ
  pub store : Store

-- The arrays, with the numbers of the code's progress.
abbrev pub state_of : List ℕ → List ℕ → List ℕ → List ℕ → List ℕ → Progress → State
state_of marks stack starts cuts members p = record { marks = marks; stack = stack; top = p.top; store = store_of starts cuts members p }

-- There is a mark and a place on the stack for each of n vertices, and room: each edge in a piece or on the stack led to a vertex
-- that has a mark now.
pub record HasRoom (n : ℕ) (s : State) : Type 0 where
  pub marks_length : length s.marks ≡ n
  pub stack_length : length s.stack ≡ n
  pub fits : s.store.used + s.top + unvisited n s.marks ≤ n
  pub sound : Sound n s.store

-- What is asked: the arcs are those of n vertices, v is one of them, and there is room.
pub record Walkable (n : ℕ) (bounds arcs : List ℕ) (v : ℕ) (s : State) : Type 0 where
  pub around : Arcs n bounds arcs
  pub inside : v < n
  pub room : HasRoom n s

-- There is room, and a bunch stands on the stack from `base` on, of no more weight than so many edges may have.
pub record Bunched (n base : ℕ) (s : State) (w : ℕ) : Type 0 where
  pub room : HasRoom n s
  pub above : base ≤ s.top
  pub light : WithinEdges w (s.top - base)

-- The children of v among the arcs `rest` were grown and split, with a bunch on the stack that weighs w: from the state s to the state t,
-- where what is left at v stands on the stack and weighs z. Below the bunch the stack is as it was, and behind a place for each vertex that was left.
pub record ChildrenWalked (n : ℕ) (bounds arcs : List ℕ) (H v base : ℕ) (rest : List ℕ) (s : State) (w : ℕ) (t : State) (z : ℕ) : Type 0 where
  pub parts : List Tree
  pub below : SplitBelow bounds arcs H v rest s.marks (stacked s.stack base s.top w)
      parts (stacked t.stack base t.top z) t.marks
  pub added : Added n parts s.store t.store
  pub edge_each : EdgeEach s.store t.store
  pub kept : take base t.stack ≡ take base s.stack
  pub stack_rest : OnlyFirst (s.top + unvisited n s.marks) s.stack t.stack
  pub bunched : Bunched n base t z
  pub fits : t.store.used + t.top + unvisited n t.marks ≤ s.store.used + s.top + unvisited n s.marks
  pub fewer : unvisited n t.marks ≤ unvisited n s.marks

-- What is promised: all children of v were, with no bunch to begin with.
abbrev pub NodeWalked : ℕ → List ℕ → List ℕ → ℕ → ℕ → State → State → ℕ → Type 0
NodeWalked n bounds arcs H v s t z = ChildrenWalked n bounds arcs H v s.top (segment bounds arcs v) s 0 t z
