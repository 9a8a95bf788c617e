-- The edges within a limit come first in the order, so that the kept ones among them are the whole order's kept edges within
-- the limit: one forest serves all limits.
-- Assumes nothing.
use Prim.Native.Nat.{ℕ, ◌≤◌, ◌<◌}
use mathlib.Core.Path.{◌≡◌, refl, sym, ◌∙◌}
use mathlib.Core.Bool.{Bool, true, false, cond, true≢false}
use mathlib.Core.List.{List, ◌∷◌}
use mathlib.Core.Logic.{◌⊎◌, inl, inr}
use native.Mathlib.Omega.{arith}
use lib.Dec.{leb}
use borrow.Author.Tests.{leb-true, le-leb}
use Rattle.lists.specs.Lists.{filter}
use Rattle.lists.specs.Member.{◌∈◌}
use Rattle.lists.proofs.Member.{either, in_filter, of_filter}
use Rattle.lists.proofs.InOrder.{InOrder, first_before, rest_in_order, filter_in_order, in_order_weaken}
use Rattle.lists.proofs.Filters.{filter_none}
use Rattle.graph.specs.Graph.{Graph, edge_count, weight_of}
use Rattle.rules.specs.Labels.{Labels, merge_edge}
use Rattle.rules.specs.Order.{ordered, ByWeight, light}
use Rattle.rules.specs.Forest.{keep, forest}
use Rattle.forest_laws.proofs.Keeping.{Kept, nothing, skipped, taken, kept, is_kept, kept_in}
use Rattle.forest_laws.proofs.Ordering.{in_ordered, of_ordered, ordered_by_weight}

module _ (g : Graph) (limit : ℕ) where
  -- an edge of the graph is light exactly where its weight is at most the limit
  pub in_light : {e : ℕ} → e < edge_count g → weight_of g e ≤ limit → e ∈ light g limit
  unfolding light
  in_light {e} h w = in_filter (λ f. leb (weight_of g f) limit) (in_ordered g h) (le-leb (weight_of g e) limit w)

  pub of_light : {e : ℕ} → e ∈ light g limit → (e < edge_count g) × (weight_of g e ≤ limit)
  unfolding light
  of_light {e} m = let r = of_filter (λ f. leb (weight_of g f) limit) (ordered g) m in (of_ordered g r.0, leb-true (weight_of g e) limit r.1)

  pub light_by_weight : ByWeight g (light g limit)
  unfolding light
  light_by_weight = filter_in_order (λ f. leb (weight_of g f) limit) (ordered_by_weight g)

-- a test that, once failed, is failed by all that follow may be made before keeping or after it
kept_filtered : {g : Graph} (t : ℕ → Bool) {P : Labels} {E K : List ℕ} → Kept g P E K → InOrder (λ (x y : ℕ). t y ≡ true → t x ≡ true) E → Kept g P (filter t E) (filter t K)
unfolding filter
kept_filtered t nothing s = nothing
kept_filtered {g} t (skipped {P = P} {e = e} {E = E} {K = K} p k) s = go (t e) (kept_filtered t k (rest_in_order s))
  where
    go : (b : Bool) → Kept g P (filter t E) (filter t K) → Kept g P (cond b (e ∷ filter t E) (filter t E)) (filter t K)
    go true ih = skipped p ih
    go false ih = ih
kept_filtered {g} t (taken {P = P} {e = e} {E = E} {K = K} p k) s = go (t e) refl (kept_filtered t k (rest_in_order s))
  where
    fails : t e ≡ false → (f : ℕ) → f ∈ E → t f ≡ false
    fails q f m = pick (either (t f))
      where
        pick : (t f ≡ true) ⊎ (t f ≡ false) → t f ≡ false
        pick (inl r) = absurd (true≢false (sym (first_before s f m r) ∙ q))
        pick (inr r) = r

    go : (b : Bool) → t e ≡ b → Kept g (merge_edge g P e) (filter t E) (filter t K) → Kept g P (cond b (e ∷ filter t E) (filter t E)) (cond b (e ∷ filter t K) (filter t K))
    go true q ih = taken p ih
    go false q ih = rw (filter_none t E (fails q), filter_none t K (λ f m. fails q f (kept_in k m))) nothing

-- the forest at a limit is the whole forest's edges of weight at most the limit
pub forest_within : (g : Graph) (P : Labels) (limit : ℕ) → forest g P limit ≡ filter (λ e. leb (weight_of g e) limit) (keep g P (ordered g))
unfolding forest light
forest_within g P limit = is_kept (kept_filtered (λ e. leb (weight_of g e) limit) (kept g P (ordered g)) (in_order_weaken down (ordered_by_weight g)))
  where
    down : (e f : ℕ) → weight_of g e ≤ weight_of g f → leb (weight_of g f) limit ≡ true → leb (weight_of g e) limit ≡ true
    down e f h t = let r = leb-true (weight_of g f) limit t in le-leb (weight_of g e) limit (omega arith)
