-- Keeping each edge whose ends are not yet joined. The kept edges are edges of the list, in its order, each once, with their ends
-- apart at the start; they join all that the list joins.
-- Assumes nothing.
use Prim.Native.Nat.{ℕ}
use mathlib.Core.Path.{◌≡◌, refl, sym, ap, ◌∙◌}
use mathlib.Core.List.Memᴰ
use mathlib.Core.List.{List, [], ◌∷◌}
use native.Mathlib.Decide.{ℕ_discrete}
use borrow.Author.Tests.{eq-eqb, ne_eqb}
use Rattle.lists.specs.Member.{◌∈◌}
use Rattle.lists.proofs.InOrder.{InOrder, none, next, Once, first_before, rest_in_order}
use Rattle.graph.specs.Graph.{Graph, one_end, other_end}
use Rattle.rules.specs.Labels.{Labels, joined, ends_joined, merge_edge, merge_all}
use Rattle.rules.specs.Forest.{keep}
use Rattle.forest_laws.proofs.Merging.{JoinsEnds, edge_joined, edge_joins, edge_coarser}

module _ (g : Graph) (P : Labels) (e : ℕ) where
  -- an edge whose ends are joined is skipped
  pub keep_joined : (E : List ℕ) → JoinsEnds g P e → keep g P (e ∷ E) ≡ keep g P E
  unfolding keep ends_joined joined
  keep_joined E p = rw (eq-eqb (P (one_end g e)) (P (other_end g e)) p)

  -- an edge whose ends are apart is kept
  pub keep_apart : (E : List ℕ) → (JoinsEnds g P e → ⊥) → keep g P (e ∷ E) ≡ e ∷ keep g (merge_edge g P e) E
  unfolding keep ends_joined joined
  keep_apart E p = rw (ne_eqb (P (one_end g e)) (P (other_end g e)) p)

-- The kept edges K of the list E, edge by edge: the form in which the proofs below take `keep` apart.
pub data Kept (g : Graph) : Labels → List ℕ → List ℕ → Type 0 where
  nothing : {P : Labels} → Kept g P [] []
  skipped : {P : Labels} {e : ℕ} {E K : List ℕ} → JoinsEnds g P e → Kept g P E K → Kept g P (e ∷ E) K
  taken : {P : Labels} {e : ℕ} {E K : List ℕ} → (JoinsEnds g P e → ⊥) → Kept g (merge_edge g P e) E K → Kept g P (e ∷ E) (e ∷ K)

-- `keep` makes them
pub kept : (g : Graph) (P : Labels) (E : List ℕ) → Kept g P E (keep g P E)
unfolding keep
kept g P [] = nothing
kept g P (e ∷ E) = go (ℕ_discrete (P (one_end g e)) (P (other_end g e))) (kept g P E) (kept g (merge_edge g P e) E)
  where
    go : Dec (JoinsEnds g P e) → Kept g P E (keep g P E) → Kept g (merge_edge g P e) E (keep g (merge_edge g P e) E)
        → Kept g P (e ∷ E) (keep g P (e ∷ E))
    go (yes p) skip take = rw (keep_joined g P e E p) (skipped p skip)
    go (no p) skip take = rw (keep_apart g P e E p) (taken p take)

module _ {g : Graph} where
  -- and nothing else does
  pub is_kept : {P : Labels} {E K : List ℕ} → Kept g P E K → keep g P E ≡ K
  unfolding keep
  is_kept nothing = refl
  is_kept (skipped {P = P} {e = e} {E = E} p k) = keep_joined g P e E p ∙ is_kept k
  is_kept (taken {P = P} {e = e} {E = E} p k) = keep_apart g P e E p ∙ ap (λ l. e ∷ l) (is_kept k)

  -- they are edges of the list
  pub kept_in : {P : Labels} {E K : List ℕ} {x : ℕ} → Kept g P E K → x ∈ K → x ∈ E
  kept_in nothing m = m
  kept_in (skipped p k) m = Memᴰ.tail (kept_in k m)
  kept_in (taken p k) (Memᴰ.head q) = Memᴰ.head q
  kept_in (taken p k) (Memᴰ.tail m) = Memᴰ.tail (kept_in k m)

  fresh : {P : Labels} {E K : List ℕ} {x : ℕ} → Kept g P E K → x ∈ K → JoinsEnds g P x → ⊥
  fresh nothing m q = Memᴰ.not-nil m
  fresh (skipped p k) m q = fresh k m q
  fresh {P = P} (taken p k) (Memᴰ.head r) q = p (rw (← r) q)
  fresh {P = P} {x = x} (taken {e = e} p k) (Memᴰ.tail m) q = fresh k m (edge_coarser g P e (one_end g x) (other_end g x) q)

  once : {P : Labels} {E K : List ℕ} → Kept g P E K → Once K
  once nothing = none
  once (skipped p k) = once k
  once (taken {P = P} {e = e} p k) = next (λ y m q. fresh k m (rw (← q) (edge_joins g P e))) (once k)

  in_order {κ} : {R : ℕ → ℕ → Type κ} {P : Labels} {E K : List ℕ} → Kept g P E K → InOrder R E → InOrder R K
  in_order nothing r = none
  in_order (skipped p k) r = in_order k (rest_in_order r)
  in_order (taken p k) r = next (λ y m. first_before r y (kept_in k m)) (in_order k (rest_in_order r))

  merges : {P : Labels} {E K : List ℕ} → Kept g P E K → merge_all g P K ≡ merge_all g P E
  unfolding merge_all
  merges nothing = refl
  merges (skipped {P = P} {e = e} {E = E} p k) = merges k ∙ ap (λ Q. merge_all g Q E) (sym (edge_joined g P e p))
  merges (taken p k) = merges k

module _ (g : Graph) (P : Labels) (E : List ℕ) where
  -- the kept edges are edges of the list
  pub kept_subset : {e : ℕ} → e ∈ keep g P E → e ∈ E
  kept_subset m = kept_in (kept g P E) m

  -- each is kept once
  pub kept_once : Once (keep g P E)
  kept_once = once (kept g P E)

  -- they stand in the order of the list
  pub kept_in_order {κ} : {R : ℕ → ℕ → Type κ} → InOrder R E → InOrder R (keep g P E)
  kept_in_order r = in_order (kept g P E) r

  -- merging along them gives the labels that merging along the whole list gives
  pub kept_merges : merge_all g P (keep g P E) ≡ merge_all g P E
  kept_merges = merges (kept g P E)
