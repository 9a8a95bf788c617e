-- Which vertices the trees hold: every root and child is linked to a root by edges of the trees, and every vertex that the edges link to a
-- root is a root or a child.
-- Assumes nothing.
use Prim.Native.Nat.{ℕ, zero, suc, ◌+◌, ◌≤◌, ◌<◌}
use mathlib.Core.Path.{◌≡◌, refl, sym}
use mathlib.Core.List.Memᴰ
use mathlib.Core.List.{List, [], ◌∷◌}
use mathlib.Core.Logic.{◌⊎◌, inl, inr}
use native.Mathlib.Omega.{arith}
use Rattle.lists.specs.Lists.{times}
use Rattle.lists.specs.Member.{◌∈◌}
use Rattle.lists.proofs.Times.{times_none, in_times, times_in}
use Rattle.graph.specs.Graph.{Graph, one_end, other_end}
use Rattle.rules.specs.Walk.{Joins, onward, back, Linked}
use Rattle.rules.specs.Grow.{grow_node, grow}
use Rattle.rules.proofs.Linked.{linked_same, linked_more, linked_least}
use Rattle.forest_laws.proofs.Roots.{Reached}
use Rattle.split_laws.proofs.Along.{children_linked}
use Rattle.split_laws.proofs.Grown.{kept, node_grows}
use Rattle.split_laws.proofs.Deep.{Inside, vertices_deep}
use Rattle.split_laws.proofs.Trees.{all_children, all_edges, in_all_edges, of_all_children, passed_from, trees_grow, tree_root, tree_hangs}

-- Both ends of each edge at a vertex of the list stand in the list.
abbrev ClosedAlong : Graph → List ℕ → List ℕ → Type 0
ClosedAlong g edges xs = (e u w : ℕ) → e ∈ edges → Joins g e u w → u ∈ xs → w ∈ xs

-- What is linked to a vertex of such a list stands in the list.
closed_linked : {g : Graph} {edges xs : List ℕ} → ClosedAlong g edges xs → {u v : ℕ} → Linked g edges u v → u ∈ xs → v ∈ xs
closed_linked {g} {edges} {xs} closed l =
    (linked_least (λ u v. (u ∈ xs → v ∈ xs) × (v ∈ xs → u ∈ xs))
    (λ u v q. (λ m. Memᴰ.cast (sym q) m, λ m. Memᴰ.cast q m))
    (λ u v w a b. (λ m. b.0 (a.0 m), λ m. a.1 (b.1 m)))
    (λ u v a. (a.1, a.0))
    (λ e m. (closed e (one_end g e) (other_end g e) m (onward refl refl), closed e (other_end g e) (one_end g e) m (back refl refl)))
    l).0

-- Every root and child is linked to a root by edges of the trees.
pub reached_from_root : (g : Graph) (edges roots : List ℕ) {x : ℕ} → (x ∈ roots) ⊎ (x ∈ all_children (grow g edges roots)) → Reached g roots (all_edges (grow g edges roots)) x
reached_from_root g edges roots {x} (inl m) = (x, m, linked_same refl)
reached_from_root g edges roots {x} (inr m) =
    let (t, i, n) = of_all_children (grow g edges roots) m in
    (t.root, tree_root g edges roots i, linked_more (λ e k. in_all_edges i k) (children_linked (tree_hangs g edges roots i) n))

module _ (g : Graph) (edges : List ℕ) (inside : Inside g edges) where
  -- The vertices passed stay closed from root to root.
  passed_closed : (roots : List ℕ) → ((r : ℕ) → r ∈ roots → r < g.vertices) → (passed : List ℕ) → ClosedAlong g edges passed
      → ClosedAlong g edges (passed_from g edges roots passed)
  unfolding passed_from
  passed_closed [] within passed closed = closed
  passed_closed (r ∷ roots) within passed closed =
      let finished = vertices_deep g edges inside r passed (within r (Memᴰ.head refl)) in
      passed_closed roots (λ s m. within s (Memᴰ.tail m)) after (λ e u w m j i. go (λ n. closed e u w m j n) (finished e u w m j i))
    where
      after : List ℕ
      after = (grow_node g.vertices g edges r passed).passed

      go : {u w : ℕ} → (u ∈ passed → w ∈ passed) → (u ∈ passed) ⊎ (w ∈ after) → w ∈ after
      go {u} {w} before (inl n) = kept (node_grows g edges g.vertices r passed) w (Memᴰ.tail (before n))
      go before (inr n) = n

  module _ (roots : List ℕ) where
    root_or_child : (x : ℕ) → 1 ≤ times x roots + times x (all_children (grow g edges roots)) → (x ∈ roots) ⊎ (x ∈ all_children (grow g edges roots))
    root_or_child x some = go (times x roots) refl
      where
        go : (n : ℕ) → times x roots ≡ n → (x ∈ roots) ⊎ (x ∈ all_children (grow g edges roots))
        go zero q = inr (times_in x (all_children (grow g edges roots)) (omega arith))
        go (suc n) q = inl (times_in x roots (omega arith))

    -- Every vertex that the edges link to a root is a root or a child.
    pub all_reached : ((r : ℕ) → r ∈ roots → r < g.vertices) → {x : ℕ} → Reached g roots edges x → (x ∈ roots) ⊎ (x ∈ all_children (grow g edges roots))
    unfolding grow
    all_reached within {x} (r, is_root, linked) =
        let grown = trees_grow g edges roots [] in
        let closed = passed_closed roots within [] (λ e u w m j i. absurd (Memᴰ.not-nil i)) in
        let start : r ∈ passed_from g edges roots [] = times_in r (passed_from g edges roots []) (omega (arith, grown.adds r, in_times is_root)) in
        root_or_child x (omega (arith, in_times (closed_linked closed linked start), grown.adds x, times_none x))
