-- Which edges a component's tree holds: just the forest's edges with the root's label, each once. An edge of the tree is linked to its root,
-- so it has the root's label; an edge of the forest stands in some tree, and trees whose roots have one label are one tree.
-- Assumes nothing.
use Prim.Native.Nat.{ℕ, zero, suc, ◌≤◌}
use mathlib.Core.Path.{◌≡◌, refl, sym, ◌∙◌, subst}
use mathlib.Core.Bool.{cond}
use mathlib.Core.List.{List, map}
use native.Mathlib.Omega.{arith}
use lib.Dec.{eqb}
use borrow.Author.Tests.{eqb-true, eq-eqb}
use Rattle.lists.specs.Lists.{filter, sum_of, times}
use Rattle.lists.specs.Member.{◌∈◌}
use Rattle.lists.specs.Sort.{rise}
use Rattle.lists.proofs.Member.{in_filter, of_filter}
use Rattle.lists.proofs.InOrder.{Once, filter_in_order, rising_once}
use Rattle.lists.proofs.Images.{same_image}
use Rattle.lists.proofs.Bounds.{sum_each}
use Rattle.lists.proofs.SumsAlike.{sum_flat_map}
use Rattle.lists.proofs.Sorting.{in_rise, of_rise}
use Rattle.lists.proofs.Times.{in_times, times_in, not_in_times, once_times}
use Rattle.lists.proofs.SameTimes.{same_sum}
use Rattle.graph.specs.Graph.{Graph, one_end, weight_of}
use Rattle.rules.specs.Walk.{total_weight}
use Rattle.rules.specs.Labels.{apart, joined}
use Rattle.rules.specs.Forest.{forest, labels_at, lowest}
use Rattle.rules.specs.Grow.{Rooted, branch_edges}
use Rattle.rules.specs.UnrootedTrial.{components}
use Rattle.rules.proofs.Linked.{linked_more}
use Rattle.forest_laws.proofs.Forest.{forest_once, labels_are_linked}
use Rattle.split_laws.proofs.Along.{Hangs}
use Rattle.split_laws.proofs.Trees.{all_edges, of_all_edges, grow_roots, tree_hangs, tree_root, tree_edge_known}
use Rattle.split_laws.proofs.Once.{edges_same, edge_at_most_once}
use Rattle.split_laws.proofs.Lowest.{lowest_rising, lowest_alike}
use Rattle.split_laws.proofs.RootHeld.{branches_joined}
use Rattle.split_laws.proofs.Whole.{EndsInside, unrooted_forest}

-- The vertices have one label at the limit.
abbrev pub Alike : Graph → ℕ → ℕ → ℕ → Type 0
Alike g limit u v = labels_at g apart limit u ≡ labels_at g apart limit v

-- The forest's edges with the label of r.
abbrev pub label_edges : Graph → ℕ → ℕ → List ℕ
label_edges g limit r = filter (λ e. joined (labels_at g apart limit) r (one_end g e)) (forest g apart limit)

module _ (g : Graph) (limit : ℕ) where
  -- An edge is one of them exactly where it is the forest's and has the label.
  pub in_label_edges : (r : ℕ) {e : ℕ} → e ∈ forest g apart limit → Alike g limit r (one_end g e) → e ∈ label_edges g limit r
  unfolding joined
  in_label_edges r m q = in_filter (λ e. joined (labels_at g apart limit) r (one_end g e)) m (eq-eqb _ _ q)

  pub of_label_edges : (r : ℕ) {e : ℕ} → e ∈ label_edges g limit r → (e ∈ forest g apart limit) × Alike g limit r (one_end g e)
  unfolding joined
  of_label_edges r m = let s = of_filter (λ e. joined (labels_at g apart limit) r (one_end g e)) (forest g apart limit) m in (s.0, eqb-true _ _ s.1)

  -- Each stands there once.
  label_edges_once : (r : ℕ) → Once (label_edges g limit r)
  label_edges_once r = filter_in_order (λ e. joined (labels_at g apart limit) r (one_end g e)) (forest_once g apart limit)

  -- The roots of the components are the lowest vertices.
  pub component_roots : map (λ (t : Rooted). t.root) (components g limit) ≡ lowest g (labels_at g apart limit)
  unfolding components
  component_roots = grow_roots g (rise (forest g apart limit)) (lowest g (labels_at g apart limit))

  module _ {t : Rooted} (m : t ∈ components g limit) where
    -- A component's tree hangs at its root,
    pub component_hangs : Hangs g t.root t.branches
    unfolding components
    component_hangs = tree_hangs g (rise (forest g apart limit)) (lowest g (labels_at g apart limit)) m

    -- which is one of the lowest vertices,
    pub component_root : t.root ∈ lowest g (labels_at g apart limit)
    unfolding components
    component_root = tree_root g (rise (forest g apart limit)) (lowest g (labels_at g apart limit)) m

    -- and is made of the forest's edges,
    pub component_edge : {e : ℕ} → e ∈ branch_edges t.branches → e ∈ forest g apart limit
    unfolding components
    component_edge n = of_rise (forest g apart limit) (tree_edge_known g (rise (forest g apart limit)) (lowest g (labels_at g apart limit)) m n)

    -- which have the root's label
    pub component_edge_alike : {e : ℕ} → e ∈ branch_edges t.branches → Alike g limit t.root (one_end g e)
    component_edge_alike {e} n = (labels_are_linked g limit t.root (one_end g e)).1 (linked_more (λ f i. component_edge i) (branches_joined component_hangs e n))

    -- and stand there at most once.
    pub component_once : (e : ℕ) → times e (branch_edges t.branches) ≤ 1
    unfolding components times all_edges
    component_once e =
        let one : ℕ → ℕ = λ x. cond (eqb e x) 1 0 in
        let edges : Rooted → List ℕ = λ u. branch_edges u.branches in
        omega (
          arith,
          edge_at_most_once g (rise (forest g apart limit)) (lowest g (labels_at g apart limit)) e,
          sum_flat_map one edges (components g limit),
          sum_each (λ u. sum_of one (edges u)) m,
        )

  -- Components whose roots have one label are one.
  pub one_component : {t u : Rooted} → t ∈ components g limit → u ∈ components g limit → Alike g limit t.root u.root → t ≡ u
  one_component m n q =
      same_image (λ (t : Rooted). t.root) (components g limit) (rw component_roots (rising_once (lowest_rising g (labels_at g apart limit)))) m n
      (lowest_alike g (labels_at g apart limit) (component_root m) (component_root n) q)

  module _ (ends : EndsInside g) where
    -- Each edge stands in the components' trees as often as in the forest.
    pub components_edges : (e : ℕ) → times e (all_edges (components g limit)) ≡ times e (rise (forest g apart limit))
    unfolding components
    components_edges e =
        let f = unrooted_forest ends limit in
        edges_same g (rise (forest g apart limit)) (lowest g (labels_at g apart limit)) f.inside f.roots_inside f.untied f.once (λ d m. f.reached (one_end g d) (f.inside d m).0) e

    module _ {t : Rooted} (m : t ∈ components g limit) where
      -- An edge of the forest with the root's label stands in the tree.
      pub alike_component_edge : {e : ℕ} → e ∈ forest g apart limit → Alike g limit t.root (one_end g e) → e ∈ branch_edges t.branches
      alike_component_edge {e} n q =
          let (u, i, k) = of_all_edges (components g limit) (times_in e (all_edges (components g limit)) (omega (arith, components_edges e, in_times (in_rise n)))) in
          subst (λ (s : Rooted). e ∈ branch_edges s.branches) (sym (one_component m i (q ∙ sym (component_edge_alike i k)))) k

      -- So each edge stands in the tree as often as among those with the root's label,
      component_edges : (e : ℕ) → times e (branch_edges t.branches) ≡ times e (label_edges g limit t.root)
      component_edges e = go (times e (branch_edges t.branches)) refl
        where
          go : (n : ℕ) → times e (branch_edges t.branches) ≡ n → times e (branch_edges t.branches) ≡ times e (label_edges g limit t.root)
          go zero q = q ∙ sym (not_in_times e (label_edges g limit t.root) (λ i. let (n, a) = of_label_edges t.root i in omega (arith, in_times (alike_component_edge n a))))
          go (suc n) q =
              let i : e ∈ branch_edges t.branches = times_in e (branch_edges t.branches) (omega arith) in
              omega (arith, component_once m e, once_times (label_edges_once t.root) e, in_times (in_label_edges t.root (component_edge m i) (component_edge_alike m i)))

      -- and the tree weighs what these weigh.
      pub component_weight : total_weight g (branch_edges t.branches) ≡ total_weight g (label_edges g limit t.root)
      unfolding total_weight
      component_weight = same_sum (weight_of g) (branch_edges t.branches) (label_edges g limit t.root) component_edges
