-- Merging labels along edges. The merged labels join all that the labels before joined and the ends of each edge, and they
-- are the finest that do: whatever equivalence holds of both holds wherever they join. All else follows from that.
-- Assumes nothing.
use Prim.Native.Nat.{ℕ}
use mathlib.Core.Path.{◌≡◌, refl, sym, ap, ◌∙◌, fun_ext}
use mathlib.Core.Bool.{Bool, true, false, cond}
use mathlib.Core.List.Memᴰ
use mathlib.Core.List.{List, [], ◌∷◌, ◌++◌}
use mathlib.Core.Logic.{◌⊎◌, inl, inr, Equivalence}
use lib.Dec.{eqb}
use borrow.Author.Tests.{eqb-true, eq-eqb}
use Rattle.lists.specs.Member.{◌∈◌}
use Rattle.graph.specs.Graph.{Graph, one_end, other_end}
use Rattle.rules.specs.Labels.{Labels, merge, merge_edge, merge_all}

infix 4 ◌⊑◌
-- whatever P joins, Q joins
abbrev pub ◌⊑◌ : Labels → Labels → Type 0
P ⊑ Q = (u v : ℕ) → P u ≡ P v → Q u ≡ Q v

-- the labels join the edge's ends
abbrev pub JoinsEnds : Graph → Labels → ℕ → Type 0
JoinsEnds g P e = P (one_end g e) ≡ P (other_end g e)

-- the labels join the ends of each edge of the list
abbrev pub JoinsAll : Graph → Labels → List ℕ → Type 0
JoinsAll g P E = (e : ℕ) → e ∈ E → JoinsEnds g P e

-- "whatever P joins, Q joins" is transitive
pub ⊑_trans : {P Q R : Labels} → P ⊑ Q → Q ⊑ R → P ⊑ R
⊑_trans p q u v e = q u v (p u v e)

-- having equal labels is an equivalence
pub same_label : (Q : Labels) → Equivalence (λ (u v : ℕ). Q u ≡ Q v)
same_label Q = record { refl = λ x. refl; symm = λ x y p. sym p; trans = λ x y z p q. p ∙ q }

-- what becomes of a label when that of u is put in place of that of v
relabel : ℕ → ℕ → ℕ → ℕ
relabel lu lv l = cond (eqb l lv) lu l

module _ (P : Labels) (a b : ℕ) where
  merge_relabel : (x : ℕ) → merge P a b x ≡ relabel (P a) (P b) (P x)
  unfolding merge relabel
  merge_relabel x = refl

  -- merging separates nothing
  pub merge_coarser : P ⊑ merge P a b
  merge_coarser u v p = merge_relabel u ∙ ap (relabel (P a) (P b)) p ∙ sym (merge_relabel v)

  -- merging joins the two
  pub merge_joins : merge P a b a ≡ merge P a b b
  unfolding merge
  merge_joins = go (eqb (P a) (P b)) ∙ sym (rw (eq-eqb (P b) (P b) refl))
    where
      go : (t : Bool) → cond t (P a) (P a) ≡ P a
      go true = refl
      go false = refl

  -- what is joined by merging was joined, or each was joined to one of the two
  pub merge_cases : (u v : ℕ) → merge P a b u ≡ merge P a b v → (P u ≡ P v) ⊎ ((P u ≡ P a) × (P b ≡ P v)) ⊎ ((P u ≡ P b) × (P a ≡ P v))
  unfolding merge
  merge_cases u v = go (eqb (P u) (P b)) (eqb (P v) (P b)) refl refl
    where
      go : (s t : Bool) → eqb (P u) (P b) ≡ s → eqb (P v) (P b) ≡ t → cond s (P a) (P u) ≡ cond t (P a) (P v)
          → (P u ≡ P v) ⊎ ((P u ≡ P a) × (P b ≡ P v)) ⊎ ((P u ≡ P b) × (P a ≡ P v))
      go true true p q e = inl (eqb-true (P u) (P b) p ∙ sym (eqb-true (P v) (P b) q))
      go true false p q e = inr (inr (eqb-true (P u) (P b) p, e))
      go false true p q e = inr (inl (e, sym (eqb-true (P v) (P b) q)))
      go false false p q e = inl e

  -- merging makes the finest labels that do: an equivalence of all that was joined and of the two is one of all that is joined
  pub merge_least {κ} : {R : ℕ → ℕ → Type κ} → Equivalence R → ((u v : ℕ) → P u ≡ P v → R u v) → R a b → (u v : ℕ) → merge P a b u ≡ merge P a b v → R u v
  merge_least {R} q before both u v e = go (merge_cases u v e)
    where
      go : (P u ≡ P v) ⊎ ((P u ≡ P a) × (P b ≡ P v)) ⊎ ((P u ≡ P b) × (P a ≡ P v)) → R u v
      go (inl p) = before u v p
      go (inr (inl (p, r))) = q.trans u a v (before u a p) (q.trans a b v both (before b v r))
      go (inr (inr (p, r))) = q.trans u b v (before u b p) (q.trans b a v (q.symm a b both) (before a v r))

  -- so it is with labels that join all that was joined and the two
  pub merge_finest : (Q : Labels) → P ⊑ Q → Q a ≡ Q b → merge P a b ⊑ Q
  merge_finest Q before both = merge_least (same_label Q) before both

  -- merging what is joined changes nothing
  pub merge_joined : P a ≡ P b → merge P a b ≡ P
  unfolding merge
  merge_joined j = fun_ext (λ x. go x (eqb (P x) (P b)) refl)
    where
      go : (x : ℕ) (t : Bool) → eqb (P x) (P b) ≡ t → cond t (P a) (P x) ≡ P x
      go x true e = j ∙ sym (eqb-true (P x) (P b) e)
      go x false e = refl

-- of one edge
module _ (g : Graph) (P : Labels) (e : ℕ) where
  pub edge_coarser : P ⊑ merge_edge g P e
  unfolding merge_edge
  edge_coarser = merge_coarser P (one_end g e) (other_end g e)

  pub edge_joins : JoinsEnds g (merge_edge g P e) e
  unfolding merge_edge
  edge_joins = merge_joins P (one_end g e) (other_end g e)

  pub edge_joined : JoinsEnds g P e → merge_edge g P e ≡ P
  unfolding merge_edge
  edge_joined = merge_joined P (one_end g e) (other_end g e)

module _ (g : Graph) where
  -- edges of one list, then of another
  pub merged_append : (P : Labels) (E F : List ℕ) → merge_all g P (E ++ F) ≡ merge_all g (merge_all g P E) F
  unfolding merge_all
  merged_append P [] F = refl
  merged_append P (e ∷ E) F = merged_append (merge_edge g P e) E F

  -- the merged labels join all that was joined
  pub merged_coarser : (P : Labels) (E : List ℕ) → P ⊑ merge_all g P E
  unfolding merge_all
  merged_coarser P [] u v p = p
  merged_coarser P (e ∷ E) u v p = merged_coarser (merge_edge g P e) E u v (edge_coarser g P e u v p)

  -- they join the ends of each edge
  pub merged_joins : (P : Labels) (E : List ℕ) → JoinsAll g (merge_all g P E) E
  unfolding merge_all
  merged_joins P [] f m = absurd (mathlib.Core.List.Memᴰ.not-nil m)
  merged_joins P (e ∷ E) f (Memᴰ.head q) =
      merged_coarser (merge_edge g P e) E (one_end g f) (other_end g f) (rw q (edge_joins g P e))
  merged_joins P (e ∷ E) f (Memᴰ.tail m) = merged_joins (merge_edge g P e) E f m

  -- they are the finest: an equivalence of all that was joined and of each edge's ends is one of all that is joined
  pub merged_least {κ} : {R : ℕ → ℕ → Type κ} → Equivalence R → (P : Labels) → ((u v : ℕ) → P u ≡ P v → R u v) → (E : List ℕ)
      → ((e : ℕ) → e ∈ E → R (one_end g e) (other_end g e)) → (u v : ℕ) → merge_all g P E u ≡ merge_all g P E v → R u v
  unfolding merge_all merge_edge
  merged_least q P before [] ties u v p = before u v p
  merged_least q P before (e ∷ E) ties u v p =
      merged_least q (merge_edge g P e) (merge_least P (one_end g e) (other_end g e) q before (ties e (Memᴰ.head refl))) E (λ f m. ties f (Memᴰ.tail m)) u v p

  -- so labels that join all that P joins and each edge's ends join all that the merged labels join
  pub merged_finest : (P Q : Labels) (E : List ℕ) → P ⊑ Q → JoinsAll g Q E → merge_all g P E ⊑ Q
  merged_finest P Q E before ties = merged_least (same_label Q) P before E ties

  -- more edges over coarser labels join no less
  pub merged_monotone : (P Q : Labels) (E F : List ℕ) → P ⊑ Q → ((e : ℕ) → e ∈ E → e ∈ F) → merge_all g P E ⊑ merge_all g Q F
  merged_monotone P Q E F before sub =
      merged_finest P (merge_all g Q F) E (⊑_trans before (merged_coarser Q F)) (λ e m. merged_joins Q F e (sub e m))
