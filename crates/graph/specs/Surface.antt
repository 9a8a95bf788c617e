-- Surfaces (document 02, A.3): every edge ("line") has a class, by which its weight counts.
-- Assumes nothing.
use Rattle.std.specs.Prelude.{ℕ, ◌+◌, ◌*◌, ◌/◌, cond, List, map, get_or, leb}
use Rattle.lists.specs.Count.{below}
use Rattle.graph.specs.Graph.{Edge, Graph, edge_count, edge_at}

-- "Classes 0 to 9 count 100 percent of the weight, 10 to 19 count 120, 20 to 39 count 150, 40 to 59 count 200, and all the others 100."
unfoldable pub percent_of : ℕ → ℕ
percent_of class = cond (leb class 9) 100 (cond (leb class 19) 120 (cond (leb class 39) 150 (cond (leb class 59) 200 100)))

-- "The weight used is weight times percent over 100, rounded up." (That it is: `adjusted_least` in proofs/Adjusted.antt.)
unfoldable pub adjusted : ℕ → ℕ → ℕ
adjusted weight class = (weight * percent_of class + 99) / 100

-- The class of edge e. Without a class list, which is as a list of no bytes here, every edge is of "class 60".
unfoldable pub class_at : List ℕ → ℕ → ℕ
class_at classes e = get_or classes e 60

-- The edge, with the weight by its class.
abbrev pub with_class : Edge → ℕ → Edge
with_class x class = record { one = x.one; other = x.other; weight = adjusted x.weight class }

-- The graph, with "the weights so adjusted".
unfoldable pub surfaced : Graph → List ℕ → Graph
surfaced g classes = record { vertices = g.vertices; edges = map (λ e. with_class (edge_at g e) (class_at classes e)) (below (edge_count g)) }
