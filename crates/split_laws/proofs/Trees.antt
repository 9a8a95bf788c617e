-- The trees grown from the roots, one after the other: what holds of each node's growth holds of all together. Each tree hangs at its root,
-- no vertex is a child twice, no edge is taken twice.
-- Assumes nothing.
use Prim.Native.Nat.{ℕ, ◌+◌, ◌-◌, ◌≤◌}
use mathlib.Core.Path.{◌≡◌, refl, ap}
use mathlib.Core.List.Memᴰ
use mathlib.Core.List.{List, [], ◌∷◌, map}
use native.Mathlib.Omega.{arith}
use Rattle.lists.specs.Lists.{flat, times}
use Rattle.lists.specs.Member.{◌∈◌}
use Rattle.lists.proofs.Member.{in_map}
use Rattle.lists.proofs.FlatMap.{in_flat_map, of_flat_map}
use Rattle.lists.proofs.Times.{times_none, times_append, times_cons}
use Rattle.graph.specs.Graph.{Graph}
use Rattle.rules.specs.Grow.{branch_edges, Rooted, grow_node, grow_from, grow}
use Rattle.split_laws.proofs.Along.{Hangs, children}
use Rattle.split_laws.proofs.Grown.{both_passed, both_more, node_grows}

-- The children of all trees, and the edges of all trees.
unfoldable pub all_children : List Rooted → List ℕ
all_children trees = flat (map (λ (t : Rooted). children t.branches) trees)

unfoldable pub all_edges : List Rooted → List ℕ
all_edges trees = flat (map (λ (t : Rooted). branch_edges t.branches) trees)

-- What stands in them stands in one of the trees, and the other way round.
pub in_all_edges : {e : ℕ} {t : Rooted} {trees : List Rooted} → t ∈ trees → e ∈ branch_edges t.branches → e ∈ all_edges trees
unfolding all_edges
in_all_edges m n = in_flat_map (λ (t : Rooted). branch_edges t.branches) m n

pub of_all_edges : {e : ℕ} (trees : List Rooted) → e ∈ all_edges trees → (t : Rooted) × (t ∈ trees) × (e ∈ branch_edges t.branches)
unfolding all_edges
of_all_edges trees m = of_flat_map (λ (t : Rooted). branch_edges t.branches) trees m

pub of_all_children : {c : ℕ} (trees : List Rooted) → c ∈ all_children trees → (t : Rooted) × (t ∈ trees) × (c ∈ children t.branches)
unfolding all_children
of_all_children trees m = of_flat_map (λ (t : Rooted). children t.branches) trees m

-- The vertices passed when all roots were grown.
unfoldable pub passed_from : Graph → List ℕ → List ℕ → List ℕ → List ℕ
passed_from g edges [] passed = passed
passed_from g edges (r ∷ roots) passed = passed_from g edges roots (grow_node g.vertices g edges r passed).passed

module _ (g : Graph) (edges : List ℕ) where
  -- The trees stand by their roots.
  pub trees_roots : (roots passed : List ℕ) → map (λ (t : Rooted). t.root) (grow_from g edges roots passed) ≡ roots
  unfolding grow_from
  trees_roots [] passed = refl
  trees_roots (r ∷ roots) passed = ap (λ (l : List ℕ). r ∷ l) (trees_roots roots (grow_node g.vertices g edges r passed).passed)

  -- Each tree hangs at its root and is made of edges of the list.
  pub trees_hang : (roots passed : List ℕ) {t : Rooted} → t ∈ grow_from g edges roots passed → Hangs g t.root t.branches × ((e : ℕ) → e ∈ branch_edges t.branches → e ∈ edges)
  unfolding grow_from
  trees_hang [] passed m = absurd (Memᴰ.not-nil m)
  trees_hang (r ∷ roots) passed (Memᴰ.head q) = let n = node_grows g edges g.vertices r passed in rw q (n.hangs, n.edges_of_lem)
  trees_hang (r ∷ roots) passed (Memᴰ.tail m) = trees_hang roots (grow_node g.vertices g edges r passed).passed m

  -- Passed at the end are the roots and the children besides; no child was passed before or is one twice; no edge is taken twice, nor where
  -- both its ends were passed.
  pub record AllGrow (roots passed : List ℕ) : Type 0 where
    pub adds : (x : ℕ) → times x (passed_from g edges roots passed) ≡ times x passed + times x roots + times x (all_children (grow_from g edges roots passed))
    pub fresh : (x : ℕ) → times x (all_children (grow_from g edges roots passed)) ≤ 1 - times x passed
    pub edge_fresh : (e : ℕ) → times e (all_edges (grow_from g edges roots passed)) ≤ 1 - both_passed g passed e

  pub trees_grow : (roots passed : List ℕ) → AllGrow roots passed
  unfolding grow_from passed_from all_children all_edges flat
  trees_grow [] passed = record {
    adds = λ x. omega (arith, times_none x);
    fresh = λ x. omega (arith, times_none x);
    edge_fresh = λ e. omega (arith, times_none e);
  }
  trees_grow (r ∷ roots) passed =
      let tree = grow_node g.vertices g edges r passed in
      let first = node_grows g edges g.vertices r passed in
      let others = trees_grow roots tree.passed in
      let later = grow_from g edges roots tree.passed in
      record {
        adds = λ x. omega (arith, first.adds x, others.adds x, times_cons x r roots, times_cons x r passed, times_append x (children tree.branches) (all_children later));
        fresh = λ x. omega (arith, first.adds x, first.fresh x, others.fresh x, times_cons x r passed, times_append x (children tree.branches) (all_children later));
        edge_fresh = λ e. omega (
          arith,
          first.edge_fresh e,
          first.edge_passed e,
          others.edge_fresh e,
          times_append e (branch_edges tree.branches) (all_edges later),
          both_more g passed (r ∷ passed) (λ x. omega (arith, times_cons x r passed)) e,
          both_more g (r ∷ passed) tree.passed (λ x. omega (arith, first.adds x)) e,
        );
      }

module _ (g : Graph) (edges roots : List ℕ) where
  -- Of the trees grown from the roots: they stand by their roots,
  pub grow_roots : map (λ (t : Rooted). t.root) (grow g edges roots) ≡ roots
  unfolding grow
  grow_roots = trees_roots g edges roots []

  module _ {t : Rooted} (m : t ∈ grow g edges roots) where
    -- each hangs at its root,
    pub tree_hangs : Hangs g t.root t.branches
    unfolding grow
    tree_hangs = (trees_hang g edges roots [] m).0

    -- which is one of the roots,
    pub tree_root : t.root ∈ roots
    tree_root = rw grow_roots at (in_map (λ (t : Rooted). t.root) m)

    -- and is made of edges of the list.
    pub tree_edge_known : {e : ℕ} → e ∈ branch_edges t.branches → e ∈ edges
    unfolding grow
    tree_edge_known {e} n = (trees_hang g edges roots [] m).1 e n
