-- The lowest vertices of the components: each vertex of the graph has the label of exactly one of them, so that the forest reaches every
-- vertex from them and links no two of them.
-- Assumes nothing.
use Prim.Native.Nat.{ℕ, zero, suc, ◌<◌}
use mathlib.Core.Path.{◌≡◌, refl, sym, ◌∙◌}
use mathlib.Core.Bool.{true, false, not, true≢false}
use mathlib.Core.Logic.{◌⊎◌, inl, inr}
use native.Mathlib.Omega.{arith}
use borrow.Author.Tests.{eqb-true, eq-eqb, not-true}
use Rattle.lists.specs.Count.{below, any_below}
use Rattle.lists.specs.Member.{◌∈◌}
use Rattle.lists.proofs.Member.{either, in_filter, of_filter}
use Rattle.lists.proofs.InOrder.{Rising, filter_in_order}
use Rattle.lists.proofs.Below.{in_below, of_below, below_rising}
use Rattle.lists.proofs.AnyBelow.{any_below_found, found_any_below}
use Rattle.graph.specs.Graph.{Graph}
use Rattle.rules.specs.Walk.{Linked}
use Rattle.rules.specs.Labels.{Labels, apart, joined}
use Rattle.rules.specs.Forest.{forest, labels_at, lowest}
use Rattle.forest_laws.proofs.Roots.{Reached}
use Rattle.forest_laws.proofs.Forest.{labels_are_linked}

-- r is the only lowest vertex with the label of v.
pub record LowestOf (g : Graph) (label : Labels) (v r : ℕ) : Type 0 where
  pub listed : r ∈ lowest g label
  pub alike : label r ≡ label v
  pub only : (s : ℕ) → s ∈ lowest g label → label s ≡ label v → s ≡ r

module _ (g : Graph) (label : Labels) where
  -- Lowest vertices are vertices of the graph,
  pub lowest_inside : {v : ℕ} → v ∈ lowest g label → v < g.vertices
  unfolding lowest
  lowest_inside m = of_below g.vertices (of_filter (λ v. not (any_below v (λ u. joined label u v))) (below g.vertices) m).0

  -- they rise,
  pub lowest_rising : Rising (lowest g label)
  unfolding lowest
  lowest_rising = filter_in_order (λ v. not (any_below v (λ u. joined label u v))) (below_rising g.vertices)

  -- none below one of them has its label,
  pub lowest_first : {u v : ℕ} → v ∈ lowest g label → u < v → label u ≡ label v → ⊥
  unfolding lowest joined
  lowest_first {u} {v} m h q =
      let t = (of_filter (λ x. not (any_below x (λ w. joined label w x))) (below g.vertices) m).1 in
      true≢false (sym (found_any_below (λ w. joined label w v) v h (eq-eqb (label u) (label v) q)) ∙ not-true (any_below v (λ w. joined label w v)) t)

  -- so that two different ones have different labels.
  pub lowest_alike : {u v : ℕ} → u ∈ lowest g label → v ∈ lowest g label → label u ≡ label v → u ≡ v
  lowest_alike {u} {v} m n q =
      let not_below : u < v → ⊥ = λ h. lowest_first n h q in
      let not_above : v < u → ⊥ = λ h. lowest_first m h (sym q) in
      omega arith

  -- Every vertex of the graph has the label of one of them: itself, or else that of a vertex below it.
  lowest_below : (n v : ℕ) → v < n → v < g.vertices → (r : ℕ) × (r ∈ lowest g label) × (label r ≡ label v)
  unfolding lowest joined
  lowest_below zero v h inside = absurd (omega arith)
  lowest_below (suc n) v h inside = go (either (any_below v (λ u. joined label u v))) (λ u l i. lowest_below n u l i)
    where
      go : (any_below v (λ u. joined label u v) ≡ true) ⊎ (any_below v (λ u. joined label u v) ≡ false)
          → ((u : ℕ) → u < n → u < g.vertices → (r : ℕ) × (r ∈ lowest g label) × (label r ≡ label u)) → (r : ℕ) × (r ∈ lowest g label) × (label r ≡ label v)
      go (inl t) ih =
          let (u, l, p) = any_below_found (λ u. joined label u v) v t in
          let (r, m, q) = ih u (omega arith) (omega arith) in
          (r, m, q ∙ eqb-true (label u) (label v) p)
      go (inr t) ih = (v, in_filter (λ x. not (any_below x (λ u. joined label u x))) (in_below g.vertices inside) (rw t), refl)

  -- Every vertex of the graph has the label of exactly one of them.
  pub lowest_of_lem : (v : ℕ) → v < g.vertices → (r : ℕ) × LowestOf g label v r
  lowest_of_lem v inside = let (r, m, q) = lowest_below (suc v) v (omega arith) inside in (r, record { listed = m; alike = q; only = λ s n p. lowest_alike n m (p ∙ sym q) })

module _ (g : Graph) (limit : ℕ) where
  -- The forest links no two of them,
  pub lowest_apart : {r s : ℕ} → r ∈ lowest g (labels_at g apart limit) → s ∈ lowest g (labels_at g apart limit) → Linked g (forest g apart limit) r s → r ≡ s
  lowest_apart {r} {s} m n l = lowest_alike g (labels_at g apart limit) m n ((labels_are_linked g limit r s).1 l)

  -- and links every vertex of the graph to one of them.
  pub lowest_reach : (v : ℕ) → v < g.vertices → Reached g (lowest g (labels_at g apart limit)) (forest g apart limit) v
  lowest_reach v inside = let (r, o) = lowest_of_lem g (labels_at g apart limit) v inside in (r, o.listed, (labels_are_linked g limit r v).0 o.alike)
