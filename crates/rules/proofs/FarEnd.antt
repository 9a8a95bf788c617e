-- The far end of an edge, seen from a vertex v: the edge joins v with it where v is an end, and it is whatever the edge joins v with.
-- Assumes nothing.
use Prim.Native.Nat.{ℕ}
use mathlib.Core.Path.{◌≡◌, refl, sym, ◌∙◌}
use mathlib.Core.Bool.{Bool, true, false, cond, ◌||◌}
use lib.Dec.{eqb}
use borrow.Author.Tests.{eqb-true, eqb-false, eq-eqb}
use Rattle.lists.proofs.Every.{left_true, right_true}
use Rattle.graph.specs.Graph.{Graph, one_end, other_end}
use Rattle.rules.specs.Walk.{Joins, onward, back}
use Rattle.rules.specs.Grow.{far_end}

module _ {g : Graph} where
  -- The end that is not v is the one that the edge joins v with.
  pub far_end_lem : {e v w : ℕ} → Joins g e v w → far_end g e v ≡ w
  unfolding far_end
  far_end_lem {e} {v} {w} j = go (eqb (one_end g e) v) refl j
    where
      go : (b : Bool) → eqb (one_end g e) v ≡ b → Joins g e v w → cond b (other_end g e) (one_end g e) ≡ w
      go true t (onward p q) = sym q
      go true t (back p q) = sym p ∙ sym (eqb-true (one_end g e) v t) ∙ sym q
      go false t (onward p q) = absurd (eqb-false (one_end g e) v t (sym p))
      go false t (back p q) = sym q

  -- An edge with an end v joins v with the end that is not v,
  pub joins_far : (e v : ℕ) → eqb (one_end g e) v || eqb (other_end g e) v ≡ true → Joins g e v (far_end g e v)
  unfolding far_end
  joins_far e v t = go (eqb (one_end g e) v) refl t
    where
      go : (b : Bool) → eqb (one_end g e) v ≡ b → b || eqb (other_end g e) v ≡ true → Joins g e v (cond b (other_end g e) (one_end g e))
      go true t s = onward (sym (eqb-true (one_end g e) v t)) refl
      go false t s = back (sym (eqb-true (other_end g e) v s)) refl

  -- and an edge that joins v with something has an end v.
  pub end_test : {e v w : ℕ} → Joins g e v w → eqb (one_end g e) v || eqb (other_end g e) v ≡ true
  end_test {e} {v} (onward p q) = left_true (eqb (other_end g e) v) (eq-eqb (one_end g e) v (sym p))
  end_test {e} {v} (back p q) = right_true (eqb (one_end g e) v) (eq-eqb (other_end g e) v (sym p))
