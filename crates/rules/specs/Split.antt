-- Splitting a rooted tree with threshold H into parts and what is left (document 01, step 4).
-- Assumes nothing.
use Rattle.std.specs.Prelude.{ℕ, Bool, cond, ◌&&◌, leb, ltb}
use mathlib.Core.List.{List, [], ◌∷◌, ◌++◌, map, head_d}
use Rattle.lists.specs.Lists.{flat}
use Rattle.lists.specs.Sort.{rise}
use Rattle.graph.specs.Graph.{Graph}
use Rattle.rules.specs.Walk.{total_weight}
use Rattle.rules.specs.Cover.{Tree}
use Rattle.rules.specs.Grow.{Branches, none, branch, Rooted}

-- The parts split off so far, and the edges left.
pub record Pieces : Type 0 where
  pub parts : List Tree
  pub left : List ℕ

-- The weight is at least H. With threshold 0 no weight is, so that nothing is split.
abbrev pub reaches_weight : ℕ → ℕ → Bool
reaches_weight H weight = ltb 0 H && leb H weight

-- The edges weigh at least H.
unfoldable pub reaches : Graph → ℕ → List ℕ → Bool
reaches g H edges = reaches_weight H (total_weight g edges)

-- A part, starting at "the stop where the part was split off".
unfoldable pub part_at : ℕ → List ℕ → Tree
part_at v edges = record { start = v; edges = rise edges }

-- The smallest edge of a tree that has any: its edges rise.
unfoldable pub smallest_edge : Tree → ℕ
smallest_edge t = head_d t.edges 0

-- A child's piece, its edge and what is left below it, meets the bunch at v: it "becomes a part alone" where it reaches H,
-- "otherwise it joins the bunch, and a bunch reaching H becomes a part".
unfoldable pub settle : Graph → ℕ → ℕ → List ℕ → List ℕ → Pieces
settle g H v bunch piece =
    cond (reaches g H piece) (record { parts = part_at v piece ∷ []; left = bunch })
    (cond (reaches g H (bunch ++ piece)) (record { parts = part_at v (bunch ++ piece) ∷ []; left = [] })
    (record { parts = []; left = bunch ++ piece }))

-- The children of v are gone through with the bunch so far. "The last bunch is what is left at the node."
unfoldable pub split_at : Graph → ℕ → ℕ → List ℕ → Branches → Pieces
split_at g H v bunch none = record { parts = []; left = bunch }
split_at g H v bunch (branch e child under later) =
    let inner = split_at g H child [] under in
    let met = settle g H v bunch (e ∷ inner.left) in
    let rest = split_at g H v met.left later in
    record { parts = inner.parts ++ (met.parts ++ rest.parts); left = rest.left }

-- A rooted tree, split.
unfoldable pub split : Graph → ℕ → Rooted → Pieces
split g H t = split_at g H t.root [] t.branches

-- The parts of all trees, one tree after the other.
unfoldable pub all_parts : List Pieces → List Tree
all_parts pieces = flat (map (λ (p : Pieces). p.parts) pieces)
