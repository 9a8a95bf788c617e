-- Labels (document 01, step 2): each vertex has one, and two vertices are joined where their labels are equal.
-- Assumes nothing.
use Rattle.std.specs.Prelude.{ℕ, Bool, cond, eqb}
use mathlib.Core.List.{List, [], ◌∷◌, head_d}
use Rattle.lists.specs.Lists.{member}
use Rattle.graph.specs.Graph.{Graph, one_end, other_end}

-- The label of each vertex.
abbrev pub Labels : Type 0
Labels = ℕ → ℕ

-- The vertices are joined.
unfoldable pub joined : Labels → ℕ → ℕ → Bool
joined label u v = eqb (label u) (label v)

-- The edge's ends are joined.
unfoldable pub ends_joined : Graph → Labels → ℕ → Bool
ends_joined g label e = joined label (one_end g e) (other_end g e)

-- No two vertices are joined: each is its own label.
unfoldable pub apart : Labels
apart v = v

-- The vertices of the list are joined to each other, and no others: all roots, "from the start".
unfoldable pub together : List ℕ → Labels
together roots v = cond (member v roots) (head_d roots 0) v

-- u and v are joined: each vertex with v's label takes u's.
unfoldable pub merge : Labels → ℕ → ℕ → Labels
merge label u v =
    let lu = label u in
    let lv = label v in
    λ x. let lx = label x in cond (eqb lx lv) lu lx

-- The ends of an edge are joined.
unfoldable pub merge_edge : Graph → Labels → ℕ → Labels
merge_edge g label e = merge label (one_end g e) (other_end g e)

-- The ends of each edge of the list are joined, one edge after the other.
unfoldable pub merge_all : Graph → Labels → List ℕ → Labels
merge_all g label [] = label
merge_all g label (e ∷ es) = merge_all g (merge_edge g label e) es
