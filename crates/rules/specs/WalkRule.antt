-- The closed walk along a tree by document 02's sentences (A.1), as a property of the edges that are crossed, in order. One walk alone has it:
-- `closed_walk` (`closed_walk_exactly` of the crate `cover_laws`).
-- Assumes nothing.
use Rattle.std.specs.Prelude.{ℕ, ◌≤◌, ◌≡◌, true, List, [], ◌∷◌, ◌++◌}
use Rattle.lists.specs.Lists.{times}
use Rattle.lists.specs.Member.{◌∈◌}
use Rattle.graph.specs.Graph.{Graph}
use Rattle.rules.specs.Walk.{Walk}
use Rattle.rules.specs.Cover.{Tree}
use Rattle.rules.specs.Grow.{far_end, touches}
use Rattle.rules.specs.ClosedWalk.{stops_from}

-- The stop where a walk from u along these edges is in the end.
unfoldable pub last_stop : Graph → ℕ → List ℕ → ℕ
last_stop g u [] = u
last_stop g u (e ∷ path) = last_stop g (far_end g e u) path

-- An edge of the tree at the stop that the crossings before have not walked.
pub record IsLeft (g : Graph) (t : Tree) (before : List ℕ) (stop e : ℕ) : Type 0 where
  pub of_tree : e ∈ t.edges
  pub at_stop : touches g stop e ≡ true
  pub not_walked : e ∈ before → ⊥

-- "The lowest-numbered line of the tree not yet walked."
pub record IsLowestLeft (g : Graph) (t : Tree) (before : List ℕ) (stop e : ℕ) : Type 0 where
  pub is_left : IsLeft g t before stop e
  pub lowest : (f : ℕ) → IsLeft g t before stop f → e ≤ f

-- "The line by which the stop was first reached": crossing it led to the stop, where the walk had not been until then.
pub record FirstReached (g : Graph) (start : ℕ) (before : List ℕ) (stop e : ℕ) : Type 0 where
  pub earlier : List ℕ
  pub later : List ℕ
  pub split : before ≡ earlier ++ (e ∷ later)
  pub led_here : far_end g e (last_stop g start earlier) ≡ stop
  pub not_before : stop ∈ stops_from g start earlier → ⊥

-- The rule for crossing e after the crossings before: "At every stop the lowest-numbered line of the tree not yet walked goes first. Where none is
-- left, the line by which the stop was first reached is walked back."
pub data ByRule (g : Graph) (t : Tree) (before : List ℕ) (e : ℕ) : Type 0 where
  lowest_first : IsLowestLeft g t before (last_stop g t.start before) e → ByRule g t before e
  walked_back : ((f : ℕ) → IsLeft g t before (last_stop g t.start before) f → ⊥)
      → FirstReached g t.start before (last_stop g t.start before) e → ByRule g t before e

-- "A walk that begins and ends at the start, crosses each line of the tree exactly twice and no other line", each crossing by the rule.
pub record IsClosedWalk (g : Graph) (t : Tree) (crossings : List ℕ) : Type 0 where
  pub leads : Walk g crossings t.start t.start
  pub each_twice : (e : ℕ) → e ∈ t.edges → times e crossings ≡ 2
  pub no_other : (e : ℕ) → e ∈ crossings → e ∈ t.edges
  pub by_rule : (before : List ℕ) (e : ℕ) (after : List ℕ) → crossings ≡ before ++ (e ∷ after) → ByRule g t before e
