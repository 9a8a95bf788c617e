-- The check of a filed cover (document 01, "The filer of a cover": 31 to 35, tried in that order).
-- Assumes nothing.
use Rattle.std.specs.Prelude.{ℕ, ◌-◌, Bool, true, not, ◌&&◌, ◌||◌, List, [], ◌∷◌, length, get_or, leb, ltb, eqb}
use Rattle.lists.specs.Count.{below}
use Rattle.lists.specs.Lists.{any, all, member}
use Rattle.graph.specs.Graph.{Graph, edge_count, one_end}
use Rattle.graph.specs.Fault.{Fault, fault_unless, first_fault}
use Rattle.rules.specs.Cover.{Tree, Crews, rooted, unrooted}
use Rattle.rules.specs.CoverBytes.{trees_in, entries_in, start_in, entry_tree, entry_edge, cover_length, decode}
use Rattle.rules.specs.Labels.{Labels, apart, joined, ends_joined, merge_edge, merge_all}
use Rattle.rules.specs.Distance.{tree_vertices}

-- 32: the number of trees and the starts keep the kind's rule. (Document 02, A.5: "Rule 32 compares starts with the list.")
unfoldable pub starts_right : Crews → List ℕ → Bool
starts_right (rooted roots) b = eqb (trees_in b) (length roots) && all (λ j. eqb (start_in b j) (get_or roots j 0)) (below (trees_in b))
starts_right (unrooted k) b = leb 1 (trees_in b) && leb (trees_in b) k

-- 32: every start is one of n vertices.
unfoldable pub starts_below : ℕ → List ℕ → Bool
starts_below n b = all (λ j. ltb (start_in b j) n) (below (trees_in b))

-- 33: entry i comes strictly after the entry before it, by tree, then by edge.
unfoldable pub entry_rises : List ℕ → ℕ → Bool
entry_rises b i =
    eqb i 0 || (ltb (entry_tree b (i - 1)) (entry_tree b i)
    || (eqb (entry_tree b (i - 1)) (entry_tree b i) && ltb (entry_edge b (i - 1)) (entry_edge b i)))

-- 33: entry i names a tree and one of m edges, and rises.
unfoldable pub entry_right : ℕ → List ℕ → ℕ → Bool
entry_right m b i = ltb (entry_tree b i) (trees_in b) && (ltb (entry_edge b i) m && entry_rises b i)

-- 33: every entry does.
unfoldable pub entries_right : ℕ → List ℕ → Bool
entries_right m b = all (entry_right m b) (below (entries_in b))

-- 34: no edge's ends are joined by the edges before it.
unfoldable pub loop_free : Graph → Labels → List ℕ → Bool
loop_free g label [] = true
loop_free g label (e ∷ es) = not (ends_joined g label e) && loop_free g (merge_edge g label e) es

-- 34: every edge is joined to the start.
unfoldable pub all_joined : Graph → Tree → Bool
all_joined g t = all (λ e. joined (merge_all g apart t.edges) t.start (one_end g e)) t.edges

-- 34: the tree has no loop and no edge that is not joined to its start.
abbrev pub tree_right : Graph → Tree → Bool
tree_right g t = loop_free g apart t.edges && all_joined g t

-- 34: every tree is so.
unfoldable pub trees_right : Graph → List Tree → Bool
trees_right g trees = all (λ t. tree_right g t) trees

-- 35: some tree covers the vertex.
abbrev pub vertex_covered : Graph → List Tree → ℕ → Bool
vertex_covered g trees v = any (λ t. member v (tree_vertices g t)) trees

-- 35: every vertex is covered.
unfoldable pub vertices_covered : Graph → List Tree → Bool
vertices_covered g trees = all (λ v. vertex_covered g trees v) (below g.vertices)

-- The first number that applies, for a graph and crews that are in order. 31 is "length below 4 or not 4 + 2t + 4q".
unfoldable pub cover_fault : Graph → Crews → List ℕ → Fault
cover_fault g crews b =
    let trees = decode b in
    first_fault
    (fault_unless (leb 4 (length b) && eqb (length b) (cover_length b)) 31
    ∷ fault_unless (starts_right crews b && starts_below g.vertices b) 32
    ∷ fault_unless (entries_right (edge_count g) b) 33
    ∷ fault_unless (trees_right g trees) 34
    ∷ fault_unless (vertices_covered g trees) 35
    ∷ [])
