-- Every edge of a list without loops stands in the grown trees exactly once, where it is linked to a root. No edge stands there twice, as when it is taken its far end is new. An edge that were not taken would have both ends
-- linked to roots by the edges of the trees, which are other edges of the list: a loop.
-- Assumes nothing.
use Prim.Native.Nat.{ℕ, zero, suc, ◌≤◌, ◌<◌}
use mathlib.Core.Path.{◌≡◌, refl, sym, ◌∙◌}
use mathlib.Core.List.Memᴰ
use mathlib.Core.List.{List, []}
use native.Mathlib.Omega.{arith}
use Rattle.lists.specs.Lists.{without, times}
use Rattle.lists.specs.Member.{◌∈◌}
use Rattle.lists.proofs.Member.{in_without}
use Rattle.lists.proofs.Times.{in_times, times_in, not_in_times}
use Rattle.graph.specs.Graph.{Graph, one_end, other_end}
use Rattle.rules.specs.Walk.{Joins, onward, back, Linked}
use Rattle.rules.specs.Grow.{grow}
use Rattle.rules.proofs.Linked.{linked_on, linked_edge, linked_more}
use Rattle.forest_laws.proofs.Roots.{Reached}
use Rattle.split_laws.proofs.Deep.{Inside}
use Rattle.split_laws.proofs.Trees.{all_edges, of_all_edges, trees_grow, tree_edge_known}
use Rattle.split_laws.proofs.Reached.{all_reached, reached_from_root}

-- The edges have no loop, nor a walk between roots: no edge of them has both its ends linked to roots by the others.
abbrev pub Untied : Graph → List ℕ → List ℕ → Type 0
Untied g roots edges = (e : ℕ) → e ∈ edges → Reached g roots (without e edges) (one_end g e) → Reached g roots (without e edges) (other_end g e) → ⊥

module _ (g : Graph) (edges roots : List ℕ) where
  -- Only edges of the list stand in the trees,
  pub edge_known : {e : ℕ} → e ∈ all_edges (grow g edges roots) → e ∈ edges
  edge_known m = let (t, i, n) = of_all_edges (grow g edges roots) m in tree_edge_known g edges roots i n

  -- and none twice.
  pub edge_at_most_once : (e : ℕ) → times e (all_edges (grow g edges roots)) ≤ 1
  unfolding grow
  edge_at_most_once e = omega (arith, (trees_grow g edges roots []).edge_fresh e)

  -- An edge that does not stand in the trees is not on the way from a root.
  around : (e : ℕ) {x : ℕ} → times e (all_edges (grow g edges roots)) ≡ 0 → Reached g roots (all_edges (grow g edges roots)) x → Reached g roots (without e edges) x
  around e out (r, i, l) = (r, i, linked_more (λ f m. in_without e (edge_known m) (λ q. omega (arith, in_times (Memᴰ.cast q m)))) l)

  module _ (inside : Inside g edges) (within : (r : ℕ) → r ∈ roots → r < g.vertices) (untied : Untied g roots edges) where
    -- Every edge with an end linked to a root stands in the trees exactly once.
    pub edge_once : {e u w : ℕ} → e ∈ edges → Joins g e u w → Reached g roots edges u → times e (all_edges (grow g edges roots)) ≡ 1
    edge_once {e} {u} {w} m j (r, i, l) = go (times e (all_edges (grow g edges roots))) refl
      where
        reached : {x : ℕ} → times e (all_edges (grow g edges roots)) ≡ 0 → Linked g edges r x → Reached g roots (without e edges) x
        reached out k = around e out (reached_from_root g edges roots (all_reached g edges inside roots within (r, i, k)))

        tied : times e (all_edges (grow g edges roots)) ≡ 0 → Joins g e u w → ⊥
        tied out (onward p q) = untied e m (rw p at (reached out l)) (rw q at (reached out (linked_on l (linked_edge m j))))
        tied out (back p q) = untied e m (rw q at (reached out (linked_on l (linked_edge m j)))) (rw p at (reached out l))

        go : (n : ℕ) → times e (all_edges (grow g edges roots)) ≡ n → times e (all_edges (grow g edges roots)) ≡ 1
        go zero q = absurd (tied q j)
        go (suc n) q = omega (arith, edge_at_most_once e)

    module _ (once : (e : ℕ) → times e edges ≤ 1) (all : (e : ℕ) → e ∈ edges → Reached g roots edges (one_end g e)) where
      -- Where no edge is listed twice and all are linked to roots, the trees hold each number as often as the list does.
      pub edges_same : (e : ℕ) → times e (all_edges (grow g edges roots)) ≡ times e edges
      edges_same e = go (times e edges) refl
        where
          go : (n : ℕ) → times e edges ≡ n → times e (all_edges (grow g edges roots)) ≡ times e edges
          go zero q = not_in_times e (all_edges (grow g edges roots)) (λ m. omega (arith, in_times (edge_known m))) ∙ sym q
          go (suc n) q =
              let m : e ∈ edges = times_in e edges (omega arith) in
              omega (arith, once e, edge_once m (onward refl refl) (all e m))
