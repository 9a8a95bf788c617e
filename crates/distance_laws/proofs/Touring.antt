-- Tours are walks along edges of the graph through vertices that pass a test. A tour never visits a vertex, or leaves it for the last time.
-- Assumes nothing.
use Prim.Native.Nat.{ℕ, ◌+◌, ◌≤◌, ◌<◌}
use mathlib.Core.Path.{◌≡◌, sym, ◌∙◌}
use mathlib.Core.Bool.{Bool, true}
use mathlib.Core.List.{List, [], ◌∷◌}
use mathlib.Core.Logic.{◌⊎◌, inl, inr}
use native.Mathlib.Decide.{ℕ_discrete}
use native.Mathlib.Omega.{arith}
use Rattle.lists.specs.Lists.{sum_of}
use Rattle.lists.proofs.Pigeonhole.{but, but_other}
use Rattle.graph.specs.Graph.{Graph, edge_count, weight_of}
use Rattle.rules.specs.Walk.{Joins, onward, back, total_weight}

-- A walk along edges of the graph, through vertices of the graph that pass the test.
pub data Tour (g : Graph) (f : ℕ → Bool) : List ℕ → ℕ → ℕ → Type 0 where
  here : {u v : ℕ} → u < g.vertices → f u ≡ true → u ≡ v → Tour g f [] u v
  on : {e : ℕ} {path : List ℕ} {u v w : ℕ} → u < g.vertices → f u ≡ true → e < edge_count g → Joins g e u w → Tour g f path w v → Tour g f (e ∷ path) u v

-- What is left of a tour after its last visit of x: nothing, or an edge and a tour past x no more.
pub data Left (g : Graph) (f : ℕ → Bool) (x v weight : ℕ) : Type 0 where
  at_end : x ≡ v → Left g f x v weight
  leaves : {e w : ℕ} {path : List ℕ} → e < edge_count g → Joins g e x w → Tour g (but x f) path w v → weight_of g e + total_weight g path ≤ weight → Left g f x v weight

module _ {g : Graph} where
  -- It starts at a vertex that passes.
  pub tour_starts : {f : ℕ → Bool} {path : List ℕ} {u v : ℕ} → Tour g f path u v → (u < g.vertices) × (f u ≡ true)
  tour_starts (here h t q) = (h, t)
  tour_starts (on h t l j rest) = (h, t)

  left_more : {f : ℕ → Bool} {x v k l : ℕ} → Left g f x v k → k ≤ l → Left g f x v l
  left_more (at_end q) h = at_end q
  left_more (leaves l j rest light) h = leaves l j rest (omega arith)

  -- A tour never visits x, or it leaves x for the last time.
  pub last_visit : {f : ℕ → Bool} {path : List ℕ} {u v : ℕ} (x : ℕ) → Tour g f path u v → Tour g (but x f) path u v ⊎ Left g f x v (total_weight g path)
  unfolding total_weight sum_of
  last_visit {f} {u = u} {v = v} x (here h t q) = go (ℕ_discrete u x)
    where
      go : Dec (u ≡ x) → Tour g (but x f) [] u v ⊎ Left g f x v 0
      go (yes p) = inr (at_end (sym p ∙ q))
      go (no d) = inl (here h (but_other f x u d ∙ t) q)
  last_visit {f} {u = u} {v = v} x (on {e = e} {path = path} {w = w} h t l j rest) = go (ℕ_discrete u x) (last_visit x rest)
    where
      from_x : {y : ℕ} → u ≡ y → Joins g e u w → Joins g e y w
      from_x p (onward a b) = onward (sym p ∙ a) b
      from_x p (back a b) = back (sym p ∙ a) b

      go : Dec (u ≡ x) → Tour g (but x f) path w v ⊎ Left g f x v (total_weight g path)
          → Tour g (but x f) (e ∷ path) u v ⊎ Left g f x v (weight_of g e + total_weight g path)
      go p (inr later) = inr (left_more later (omega arith))
      go (yes p) (inl avoids) = inr (leaves l (from_x p j) avoids (omega arith))
      go (no d) (inl avoids) = inl (on h (but_other f x u d ∙ t) l j avoids)
