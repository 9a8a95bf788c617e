-- A tree started at another vertex that it covers is a tree, where it may start there, and covers the same. So it is with its lowest vertex,
-- which is one of its vertices; and there the trees of an unrooted answer start.
-- Assumes nothing.
use Prim.Native.Nat.{ℕ, ◌≤◌, ◌<◌}
use mathlib.Core.Path.{◌≡◌, refl}
use mathlib.Core.List.Memᴰ
use mathlib.Core.List.{◌∷◌}
use mathlib.Core.Logic.{◌⊎◌, inl, inr}
use native.Mathlib.Omega.{arith}
use Rattle.lists.specs.Lists.{without}
use Rattle.lists.specs.Member.{◌∈◌}
use Rattle.lists.specs.InOrder.{Rising}
use Rattle.lists.proofs.LeastOf.{least_in, least_most}
use Rattle.graph.specs.Graph.{Graph, edge_count, one_end, other_end}
use Rattle.rules.specs.Walk.{Linked}
use Rattle.rules.specs.Cover.{Tree, IsTree, Covers, at_start}
use Rattle.rules.specs.Distance.{tree_vertices}
use Rattle.rules.specs.Labels.{apart}
use Rattle.rules.specs.Forest.{labels_at}
use Rattle.rules.specs.Grow.{Rooted}
use Rattle.rules.specs.UnrootedTrial.{components, from_lowest, unrooted_trees}
use Rattle.rules.proofs.Linked.{joins_back, linked_back, linked_on}
use Rattle.rules.proofs.Joined.{JoinedTo, joined_covers, joins_below}
use Rattle.rules.proofs.TreeVertices.{covered_stands, stands_covered}
use Rattle.forest_laws.proofs.Forest.{forest_light}
use Rattle.forest_laws.proofs.UnionTree.{linked_covered}
use Rattle.split_laws.proofs.Lowest.{lowest_inside}
use Rattle.split_laws.proofs.Whole.{EndsInside}
use Rattle.planner_laws.proofs.ComponentEdges.{component_root}
use Rattle.planner_laws.proofs.ComponentTrees.{component_parts, component_leftover, part_or_leftover, component_split, part_known}
use Rattle.planner_laws.proofs.UnrootedNumber.{of_unrooted}

-- A tree but for where it may start.
pub record Hung (g : Graph) (t : Tree) : Type 0 where
  pub edges_inside : (e : ℕ) → e ∈ t.edges → e < edge_count g
  pub rising : Rising t.edges
  pub joined : JoinedTo g t.start t.edges
  pub no_loop : (e : ℕ) → e ∈ t.edges → Linked g (without e t.edges) (one_end g e) (other_end g e) → ⊥

-- The tree, started at v.
abbrev started_at : ℕ → Tree → Tree
started_at v t = record { start = v; edges = t.edges }

module _ {g : Graph} {t : Tree} (hung : Hung g t) {v : ℕ} (c : Covers g t v) where
  -- From a vertex that it covers, its edges lead wherever they lead from its start,
  from_there : {u : ℕ} → Linked g t.edges t.start u → Linked g t.edges v u
  from_there l = linked_on (linked_back (joined_covers hung.joined c)) l

  -- so that it is a tree where it may start there,
  started_is_tree : v < g.vertices → IsTree g (started_at v t)
  started_is_tree inside = record {
    start_inside = inside;
    edges_inside = hung.edges_inside;
    rising = hung.rising;
    joined = λ e m. from_there (hung.joined e m);
    no_loop = hung.no_loop;
  }

  -- and covers what it covered.
  started_covers : {u : ℕ} → Covers g t u → Covers g (started_at v t) u
  started_covers d = linked_covered (started_at v t) (from_there (joined_covers hung.joined d))

-- The lowest vertex of a tree is one that it covers.
pub lowest_covered : (g : Graph) (t : Tree) → Covers g t (from_lowest g t).start
unfolding from_lowest
lowest_covered g t = go (least_in t.start (tree_vertices g t))
  where
    go : {v : ℕ} → v ∈ (t.start ∷ tree_vertices g t) → Covers g t v
    go (Memᴰ.head q) = at_start q
    go (Memᴰ.tail m) = stands_covered g t m

-- It is at most each of these.
pub lowest_most : (g : Graph) (t : Tree) {v : ℕ} → Covers g t v → (from_lowest g t).start ≤ v
unfolding from_lowest
lowest_most g t c = least_most t.start (covered_stands g t c)

module _ {g : Graph} {t : Tree} (hung : Hung g t) where
  -- Started at its lowest vertex, a tree is a tree where it may start there,
  pub lowest_is_tree : (from_lowest g t).start < g.vertices → IsTree g (from_lowest g t)
  unfolding from_lowest
  lowest_is_tree inside = started_is_tree hung (lowest_covered g t) inside

  -- and covers what it covered.
  pub lowest_covers : {u : ℕ} → Covers g t u → Covers g (from_lowest g t) u
  unfolding from_lowest
  lowest_covers c = started_covers hung (lowest_covered g t) c

-- THE ANSWER'S TREES

module _ (g : Graph) (limit : ℕ) (ends : EndsInside g) where
  -- A part of a component, and what is left of it, starts at a vertex of the graph,
  piece_start_inside : {t : Rooted} {p : Tree} → t ∈ components g limit → (p ∈ component_parts g limit t) ⊎ (p ≡ component_leftover g limit t) → p.start < g.vertices
  piece_start_inside m (inl n) =
      let (e, far, i, j) = ((component_split g limit m).connected n).at_edge in
      let (one, other) = ends e (forest_light g apart limit e (part_known g limit m n e i)).0 in
      joins_below one other (joins_back j)
  piece_start_inside m (inr q) = rw q (lowest_inside g (labels_at g apart limit) (component_root g limit m))

  -- and so does a tree of the answer.
  pub unrooted_start_inside : {u : Tree} → u ∈ unrooted_trees g limit → u.start < g.vertices
  unrooted_start_inside m =
      let (t, i, n) = of_unrooted g limit m in
      let (p, q, piece) = part_or_leftover g limit t n in
      rw q (omega (arith, piece_start_inside i piece, lowest_most g p (at_start refl)))
