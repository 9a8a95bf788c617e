-- A child's piece meets the bunch (document 01, step 4): the three ways, by weights alone, and what the code that decides asks and promises.
-- Assumes nothing.
use Rattle.std.specs.Prelude.{ℕ, ◌+◌, ◌-◌, ◌*◌, ◌≤◌, ◌<◌, ◌≡◌, true, false, List, [], ◌∷◌, ◌++◌, length}
use Rattle.std.proofs.Math.Seq.{slice}
use Rattle.rules.specs.Cover.{Tree}
use Rattle.rules.specs.Split.{reaches_weight, part_at}
use Rattle.bunches.specs.Store.{Store, Sound, EdgeEach, Added}
use Rattle.bunches.specs.declared.Progress.{Progress}
use Rattle.bunches.specs.declared.bunch.Bunch.{Bunch}

-- Edges, and what they are said to weigh.
pub record Load : Type 0 where
  pub edges : List ℕ
  pub weight : ℕ

abbrev pub load : List ℕ → ℕ → Load
load edges weight = record { edges = edges; weight = weight }

-- The bunch at v and the piece, to the parts split off and the bunch then: the piece "becomes a part alone" where it reaches H,
-- "otherwise it joins the bunch, and a bunch reaching H becomes a part".
pub data Settles (H v : ℕ) : Load → Load → List Tree → Load → Type 0 where
  alone : {bunch piece : Load} → reaches_weight H piece.weight ≡ true
      → Settles H v bunch piece (part_at v piece.edges ∷ []) bunch
  full : {bunch piece : Load} → reaches_weight H piece.weight ≡ false → reaches_weight H (bunch.weight + piece.weight) ≡ true
      → Settles H v bunch piece (part_at v (bunch.edges ++ piece.edges) ∷ []) (load [] 0)
  joins : {bunch piece : Load} → reaches_weight H piece.weight ≡ false → reaches_weight H (bunch.weight + piece.weight) ≡ false
      → Settles H v bunch piece [] (load (bunch.edges ++ piece.edges) (bunch.weight + piece.weight))

-- What stands on the stack between two places.
abbrev pub stacked : List ℕ → ℕ → ℕ → ℕ → Load
stacked stack from to weight = load (slice from to stack) weight

-- No more than so many edges may weigh.
abbrev pub WithinEdges : ℕ → ℕ → Type 0
WithinEdges weight count = weight ≤ 1000000 * count

-- What is asked: v is a vertex, of which the stack has a place for each; the piece stands on the stack behind the bunch, and has an edge;
-- neither weighs more than so many edges may; there is room for all edges of the stack.
pub record Settleable (v : ℕ) (b : Bunch) (stack : List ℕ) (s : Store) (p : Progress) : Type 0 where
  pub inside : v < length stack
  pub bunch_first : b.base ≤ b.end
  pub piece_next : b.end < p.top
  pub fits : s.used + p.top ≤ length stack
  pub sound : Sound (length stack) s
  pub bunch_light : WithinEdges b.weight (b.end - b.base)
  pub piece_light : WithinEdges p.weight (p.top - b.end)

-- What is promised: the parts split off, what is left on the stack from the bunch's place on, and what it weighs.
pub record ChildSettled (H v : ℕ) (b : Bunch) (stack : List ℕ) (s t : Store) (p r : Progress) : Type 0 where
  pub parts : List Tree
  pub settles : Settles H v (stacked stack b.base b.end b.weight) (stacked stack b.end p.top p.weight)
      parts (stacked stack b.base r.top r.weight)
  pub added : Added (length stack) parts s t
  pub edge_each : EdgeEach s t
  pub fits : t.used + r.top ≤ s.used + p.top
  pub above : b.base ≤ r.top
  pub light : WithinEdges r.weight (r.top - b.base)
