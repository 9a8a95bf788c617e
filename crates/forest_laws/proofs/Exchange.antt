-- Exchange: where an edge joins a and b, which were apart, an edge between a and b would have joined its ends instead. So the
-- first edge of a list that joins a and b can be exchanged for an edge between them, and the list joins no less.
-- Assumes nothing.
use Prim.Native.Nat.{ℕ}
use mathlib.Core.Path.{◌≡◌, refl, sym, ap, ◌∙◌}
use mathlib.Core.List.{List, [], ◌∷◌, ◌++◌}
use mathlib.Core.Logic.{◌⊎◌, inl, inr, dite}
use native.Mathlib.Decide.{ℕ_discrete}
use Rattle.graph.specs.Graph.{Graph, one_end, other_end}
use Rattle.rules.specs.Labels.{Labels, merge, merge_edge, merge_all}
use Rattle.forest_laws.proofs.Merging.{JoinsEnds, ◌⊑◌, ⊑_trans, merge_coarser, merge_joins, merge_cases, merge_finest, edge_coarser, edge_joins, edge_joined, merged_monotone}

-- where joining c and d joins a and b, which were apart, joining a and b joins c and d
pub exchange : (P : Labels) (a b c d : ℕ) → (P a ≡ P b → ⊥) → merge P c d a ≡ merge P c d b → merge P a b c ≡ merge P a b d
exchange P a b c d apart tied = go (merge_cases P c d a b tied)
  where
    also : P ⊑ merge P a b
    also = merge_coarser P a b

    go : (P a ≡ P b) ⊎ ((P a ≡ P c) × (P d ≡ P b)) ⊎ ((P a ≡ P d) × (P c ≡ P b)) → merge P a b c ≡ merge P a b d
    go (inl p) = absurd (apart p)
    go (inr (inl (p, q))) = also c a (sym p) ∙ merge_joins P a b ∙ also b d (sym q)
    go (inr (inr (p, q))) = also c b q ∙ sym (merge_joins P a b) ∙ also a d p

-- The edge of F that first joins a and b: its ends were apart, and with a and b joined from the start, the edges before it join them.
pub record FirstJoining (g : Graph) (P : Labels) (F : List ℕ) (a b : ℕ) : Type 0 where
  pub before : List ℕ
  pub edge : ℕ
  pub after : List ℕ
  pub split : F ≡ before ++ edge ∷ after
  pub apart : JoinsEnds g P edge → ⊥
  pub exchanged : JoinsEnds g (merge_all g (merge P a b) before) edge

-- joining a and b after an edge joins no more than before it
join_earlier : (g : Graph) (P : Labels) (e a b : ℕ) → merge (merge_edge g P e) a b ⊑ merge_edge g (merge P a b) e
unfolding merge_edge
join_earlier g P e a b =
    merge_finest (merge_edge g P e) a b Q
    (merge_finest P (one_end g e) (other_end g e) Q (⊑_trans (merge_coarser P a b) also) (edge_joins g (merge P a b) e))
    (also a b (merge_joins P a b))
  where
    Q : Labels
    Q = merge_edge g (merge P a b) e

    also : merge P a b ⊑ Q
    also = edge_coarser g (merge P a b) e

-- where the edges of F join a and b, which were apart, one of them does so first
pub first_joining : (g : Graph) (P : Labels) (F : List ℕ) (a b : ℕ) → (P a ≡ P b → ⊥) → merge_all g P F a ≡ merge_all g P F b → FirstJoining g P F a b
unfolding merge_all merge_edge
first_joining g P [] a b apart tied = absurd (apart tied)
first_joining g P (f ∷ F) a b apart tied =
    dite (ℕ_discrete (merge_edge g P f a) (merge_edge g P f b)) now (λ d. later (first_joining g (merge_edge g P f) F a b d tied))
  where
    now : merge_edge g P f a ≡ merge_edge g P f b → FirstJoining g P (f ∷ F) a b
    now p = record {
      before = [];
      edge = f;
      after = F;
      split = refl;
      apart = λ q. apart (rw (edge_joined g P f q) at p);
      exchanged = exchange P a b (one_end g f) (other_end g f) apart p;
    }

    later : FirstJoining g (merge_edge g P f) F a b → FirstJoining g P (f ∷ F) a b
    later r = record {
      before = f ∷ r.before;
      edge = r.edge;
      after = r.after;
      split = ap (λ l. f ∷ l) r.split;
      apart = λ q. r.apart (edge_coarser g P f (one_end g r.edge) (other_end g r.edge) q);
      exchanged = merged_monotone g (merge (merge_edge g P f) a b) (merge_edge g (merge P a b) f) r.before r.before (join_earlier g P f a b) (λ e m. m)
          (one_end g r.edge) (other_end g r.edge) r.exchanged;
    }
