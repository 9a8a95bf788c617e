-- Fewer edges are kept than there are starts, where each end of each edge is joined to one of the starts: a kept edge joins two of them,
-- and from then on one of the two serves for both.
-- Assumes nothing.
use Prim.Native.Nat.{ℕ, ◌≤◌, ◌<◌}
use mathlib.Core.Path.{◌≡◌, refl, sym, ap, ◌∙◌}
use mathlib.Core.List.Memᴰ
use mathlib.Core.List.{List}
use mathlib.Core.Logic.{◌⊎◌, inl, inr}
use native.Mathlib.Omega.{arith}
use lib.ListN.{length}
use Rattle.lists.specs.Member.{◌∈◌}
use Rattle.lists.proofs.Sums.{removed, in_removed}
use Rattle.lists.proofs.SumsAlike.{length_removed}
use Rattle.lists.proofs.Below.{equal_or_not}
use Rattle.graph.specs.Graph.{Graph, one_end, other_end}
use Rattle.rules.specs.Labels.{Labels, merge_edge}
use Rattle.rules.specs.Forest.{keep}
use Rattle.forest_laws.proofs.Merging.{edge_coarser, edge_joins}
use Rattle.forest_laws.proofs.Keeping.{Kept, nothing, skipped, taken, kept}

-- the labels join v to one of the starts
abbrev pub JoinedToOne : Labels → List ℕ → ℕ → Type 0
JoinedToOne P starts v = (s : ℕ) × (s ∈ starts) × (P s ≡ P v)

-- they join each end of each edge to one of the starts
abbrev pub EndsJoinedToOne : Graph → Labels → List ℕ → List ℕ → Type 0
EndsJoinedToOne g P starts E = (e : ℕ) → e ∈ E → JoinedToOne P starts (one_end g e) × JoinedToOne P starts (other_end g e)

-- when an edge has joined two starts, a vertex joined to the one is joined to the other, so that the first is not needed
module _ (g : Graph) (P : Labels) (e : ℕ) {starts : List ℕ} {a b : ℕ} (at_one : P a ≡ P (one_end g e)) (m : b ∈ starts) (at_other : P b ≡ P (other_end g e)) where
  both_joined : merge_edge g P e a ≡ merge_edge g P e b
  both_joined = edge_coarser g P e a (one_end g e) at_one ∙ edge_joins g P e ∙ sym (edge_coarser g P e b (other_end g e) at_other)

  without_one : a ∈ starts → (b ≡ a → ⊥) → {v : ℕ} → JoinedToOne P starts v → JoinedToOne (merge_edge g P e) (removed m) v
  without_one n other {v} (s, i, q) = go (equal_or_not b s)
    where
      go : (b ≡ s) ⊎ (b ≡ s → ⊥) → JoinedToOne (merge_edge g P e) (removed m) v
      go (inl p) = (a, in_removed m n other, both_joined ∙ ap (merge_edge g P e) p ∙ edge_coarser g P e s v q)
      go (inr d) = (s, in_removed m i d, edge_coarser g P e s v q)

-- the theorem below, edge by edge
few : {g : Graph} {P : Labels} {E K : List ℕ} → Kept g P E K → (starts : List ℕ) → 1 ≤ length starts → EndsJoinedToOne g P starts E → length K < length starts
few nothing starts some each = omega arith
few (skipped p k) starts some each = few k starts some (λ f m. each f (Memᴰ.tail m))
few {g} (taken {P = P} {e = e} {E = E} {K = K} p k) starts some each =
    let ((a, n, q), (b, m, r)) = each e (Memᴰ.head refl) in
    let other : b ≡ a → ⊥ = λ d. p (sym q ∙ ap P (sym d) ∙ r) in
    let rest : 1 ≤ length (removed m) = omega (arith, length_removed (in_removed m n other)) in
    let ih : length K < length (removed m) =
    few k (removed m) rest (λ f i. let (x, y) = each f (Memᴰ.tail i) in (without_one g P e q m r n other x, without_one g P e q m r n other y)) in
    omega (arith, length_removed m)

-- fewer edges are kept than there are starts
pub few_kept : (g : Graph) (P : Labels) (E starts : List ℕ) → 1 ≤ length starts → EndsJoinedToOne g P starts E → length (keep g P E) < length starts
few_kept g P E starts some each = few (kept g P E) starts some each
