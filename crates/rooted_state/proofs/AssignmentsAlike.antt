-- Assignments and deficient sets by two tests that agree on all parts and roots are the same; and more parts than roots have no assignment.
-- Assumes nothing.
use Prim.Native.Nat.{ℕ, ◌<◌}
use mathlib.Core.Path.{◌≡◌, refl, sym, ap, ◌∙◌}
use mathlib.Core.Bool.{Bool, true, false, ◌&&◌}
use mathlib.Core.List.{List}
use mathlib.Core.Logic.{◌⊎◌, inl, inr}
use native.Mathlib.Omega.{arith}
use lib.ListN.{get_or}
use Rattle.lists.specs.Count.{below, any_below}
use Rattle.lists.proofs.Fewer.{count_no_more}
use Rattle.lists.proofs.Member.{either}
use Rattle.lists.proofs.Pigeonhole.{count_all, count_into}
use Rattle.lists.proofs.SameTests.{any_below_same}
use Rattle.matching.specs.Assignment.{IsAssignment, IsDeficient, marked}
use Rattle.matching.specs.Assignable.{assignable}
use Rattle.matching.proofs.AssignableLaws.{assignable_some, some_assignable}

module _ {p k : ℕ} (f h : ℕ → ℕ → Bool) (same : (i j : ℕ) → i < p → j < k → f i j ≡ h i j) where
  pub assignment_same : {roots : List ℕ} → IsAssignment p k f roots → IsAssignment p k h roots
  assignment_same a =
      record {
        each = a.each;
        is_root = a.is_root;
        may = λ i l. sym (same i _ l (a.is_root i l)) ∙ a.may i l;
        apart = a.apart;
      }

  some_same : (marks : List ℕ) (j : ℕ) → j < k → any_below p (λ i. marked marks i && h i j) ≡ any_below p (λ i. marked marks i && f i j)
  some_same marks j l =
      any_below_same p (λ i. marked marks i && h i j) (λ i. marked marks i && f i j) (λ i m. ap (λ t. marked marks i && t) (sym (same i j m l)))

  pub deficient_same : {marks : List ℕ} → IsDeficient p k f marks → IsDeficient p k h marks
  deficient_same {marks} d =
      record {
        each = d.each;
        mark = d.mark;
        fewer =
            omega (
              arith,
              d.fewer,
              count_no_more k (λ j. any_below p (λ i. marked marks i && h i j)) (λ j. any_below p (λ i. marked marks i && f i j)) (λ j l t. sym (some_same marks j l) ∙ t),
            );
      }

  -- So where an assignment exists by one, it does by the other.
  pub assignable_to : assignable f (below p) (below k) ≡ true → assignable h (below p) (below k) ≡ true
  assignable_to t = let (roots, a) = assignable_some f p k t in some_assignable h (assignment_same a)

pub assignable_same : {p k : ℕ} (f h : ℕ → ℕ → Bool) → ((i j : ℕ) → i < p → j < k → f i j ≡ h i j)
    → assignable f (below p) (below k) ≡ assignable h (below p) (below k)
assignable_same {p} {k} f h same = go (either (assignable f (below p) (below k))) (either (assignable h (below p) (below k)))
  where
    F : Bool
    F = assignable f (below p) (below k)

    H : Bool
    H = assignable h (below p) (below k)

    go : (F ≡ true) ⊎ (F ≡ false) → (H ≡ true) ⊎ (H ≡ false) → F ≡ H
    go (inl t) _ = t ∙ sym (assignable_to f h same t)
    go (inr t) (inl u) = assignable_to h f (λ i j l m. sym (same i j l m)) u ∙ sym u
    go (inr t) (inr u) = t ∙ sym u

-- More parts than roots have no assignment.
pub too_many : (f : ℕ → ℕ → Bool) {p k : ℕ} → k < p → assignable f (below p) (below k) ≡ false
too_many f {p} {k} more = go (either (assignable f (below p) (below k)))
  where
    go : (assignable f (below p) (below k) ≡ true) ⊎ (assignable f (below p) (below k) ≡ false) → assignable f (below p) (below k) ≡ false
    go (inr t) = t
    go (inl t) =
        let (roots, a) = assignable_some f p k t in
        absurd (omega (arith, count_all p, count_all k, count_into (λ _. true) (λ i. get_or roots i 0) p k (λ _. true) (λ i h _. (a.is_root i h, refl)) (λ i j h l _ _ e. a.apart i j h l e)))
