-- Labels that are vertices: where all vertices are apart at the start, a label is a vertex of the graph that has itself for a label, and
-- merging along edges keeps it so.
-- Assumes nothing.
use Prim.Native.Nat.{ℕ, ◌<◌}
use mathlib.Core.Path.{◌≡◌, refl, sym, ◌∙◌}
use mathlib.Core.Bool.{Bool, true, false, cond}
use mathlib.Core.List.{List, [], ◌∷◌}
use mathlib.Core.Logic.{◌⊎◌, inl, inr}
use native.Mathlib.Omega.{arith}
use lib.Dec.{eqb}
use borrow.Author.Tests.{eqb-true, eqb-false}
use Rattle.graph.specs.Graph.{Graph, one_end, other_end}
use Rattle.graph.specs.Valid.{Valid}
use Rattle.graph.proofs.Ranges.{one_end_below}
use Rattle.rules.specs.Labels.{Labels, apart, merge, merge_edge, merge_all}

-- Labels that are vertices: a label is its own label, and the label of a vertex below n is below n.
pub record VertexLabels (n : ℕ) (label : Labels) : Type 0 where
  pub itself : (x : ℕ) → label (label x) ≡ label x
  pub below : (x : ℕ) → x < n → label x < n

-- The vertices that are their own label.
unfoldable pub own : Labels → ℕ → Bool
own label x = eqb (label x) x

-- A vertex with b's label takes a's, another keeps its own.
abbrev pub Cases : Labels → ℕ → ℕ → ℕ → Type 0
Cases label a b x = ((label x ≡ label b) × (merge label a b x ≡ label a)) ⊎ ((label x ≡ label b → ⊥) × (merge label a b x ≡ label x))

pub merge_each : (label : Labels) (a b x : ℕ) → Cases label a b x
unfolding merge
merge_each label a b x = go (eqb (label x) (label b)) refl
  where
    go : (t : Bool) → eqb (label x) (label b) ≡ t → ((label x ≡ label b) × (cond t (label a) (label x) ≡ label a)) ⊎ ((label x ≡ label b → ⊥) × (cond t (label a) (label x) ≡ label x))
    go true e = inl (eqb-true _ _ e, refl)
    go false e = inr (eqb-false _ _ e, refl)

module _ {n : ℕ} {label : Labels} (s : VertexLabels n label) (a b : ℕ) where
  -- Labels stay vertices.
  pub merge_vertices : a < n → VertexLabels n (merge label a b)
  merge_vertices la = record { itself = λ x. itself x (merge_each label a b x); below = λ x l. below x l (merge_each label a b x) }
    where
      taken : Cases label a b (label a) → merge label a b (label a) ≡ label a
      taken (inl c) = c.1
      taken (inr c) = c.1 ∙ s.itself a

      kept : (x : ℕ) → (label x ≡ label b → ⊥) → Cases label a b (label x) → merge label a b (label x) ≡ label x
      kept x other (inl c) = absurd (other (sym (s.itself x) ∙ c.0))
      kept x other (inr c) = c.1 ∙ s.itself x

      itself : (x : ℕ) → Cases label a b x → merge label a b (merge label a b x) ≡ merge label a b x
      itself x (inl c) = rw c.1 (taken (merge_each label a b (label a)))
      itself x (inr c) = rw c.1 (kept x c.0 (merge_each label a b (label x)))

      below : (x : ℕ) → x < n → Cases label a b x → merge label a b x < n
      below x l (inl c) = omega (arith, c.1, s.below a la)
      below x l (inr c) = omega (arith, c.1, s.below x l)

-- Where all are apart, each vertex is its own label.
pub apart_vertices : (n : ℕ) → VertexLabels n apart
unfolding apart
apart_vertices n = record { itself = λ x. refl; below = λ x l. l }

-- Merging along edges of a valid graph keeps labels vertices.
pub merged_vertices : {g : Graph} → Valid g → {label : Labels} → VertexLabels g.vertices label → (E : List ℕ) → VertexLabels g.vertices (merge_all g label E)
unfolding merge_all merge_edge
merged_vertices valid s [] = s
merged_vertices {g} valid {label = label} s (e ∷ E) = merged_vertices valid {label = merge label (one_end g e) (other_end g e)} (merge_vertices s (one_end g e) (other_end g e) (one_end_below valid e)) E
