-- An assignment that is asked as it must be is not refused; what its answers then say.
-- Assumes nothing.
use Prim.Native.Nat.{ℕ, ◌*◌, ◌≤◌, ◌<◌}
use mathlib.Core.Path.{◌≡◌, sym, ◌∙◌}
use mathlib.Core.Bool.{true, false, true≢false}
use mathlib.Core.List.{List}
use mathlib.Core.Logic.{◌⊎◌, inl, inr}
use native.Mathlib.Omega.{arith}
use lib.ListN.{length, get_or}
use borrow.Author.Tests.{ltb-true, le-ltb, eq-eqb}
use Rattle.lists.specs.Count.{below}
use Rattle.lists.specs.Lists.{any}
use Rattle.lists.proofs.Member.{any_found, either}
use Rattle.lists.proofs.Places.{place_of}
use Rattle.matching.specs.declared.Answer.{Answer}
use Rattle.matching.specs.declared.Answer.TheVariants.{Refused, Assigned, Deficient}
use Rattle.matching.specs.Assignment.{IsAssignment}
use Rattle.matching.specs.Assignable.{assignable}
use Rattle.matching.specs.Input.{allowed_at, above_one, refused_of}
use Rattle.matching.specs.Promise.{Assigns}
use Rattle.matching.proofs.AssignableLaws.{assignable_some, some_assignable}
use Rattle.rooted_parts.specs.Parts.{AssignAsked, AssignDone}

-- No byte is above 1.
none_above : (rows : List ℕ) → ((x : ℕ) → x < length rows → get_or rows x 0 ≤ 1) → any above_one rows ≡ false
none_above rows ones = go (either (any above_one rows))
  where
    go : (any above_one rows ≡ true) ⊎ (any above_one rows ≡ false) → any above_one rows ≡ false
    go (inl t) =
        let (x, m, above) = any_found above_one rows t in
        let (i, h, q) = place_of 0 m in
        absurd (omega (arith, ltb-true 1 x above, ones i h, q))
    go (inr f) = f

module _ {p k : ℕ} {rows assignment : List ℕ} (a : AssignAsked p k rows assignment) where
  pub not_refused : refused_of p k rows (length assignment) ≡ false
  unfolding refused_of
  not_refused =
      rw (le-ltb 255 p a.parts_few, le-ltb k 1 a.roots_some, le-ltb 32 k a.roots_few, eq-eqb (length rows) (p * k) a.sized, none_above rows a.ones, le-ltb (length assignment) p a.room)

  module _ {answer : Answer} {after : List ℕ} (s : Assigns p k rows assignment answer after) where
    -- It is assigned, deficient, or refused, which it is not.
    pub done_assigned : answer ≡ Assigned → AssignDone p k rows assignment after true
    done_assigned q =
        let x = s.means Assigned q in
        record {
          is = sym (some_assignable (allowed_at rows k) x.assignment);
          is_assignment = λ _. x.assignment;
          deficient = λ f. absurd (true≢false f);
          rest = s.rest;
        }

    pub done_deficient : answer ≡ Deficient → AssignDone p k rows assignment after false
    done_deficient q =
        let x = s.means Deficient q in
        record {
          is = sym (none_assignable x.none);
          is_assignment = λ t. absurd (true≢false (sym t));
          deficient = λ _. x.set;
          rest = s.rest;
        }
      where
        none_assignable : ((roots : List ℕ) → IsAssignment p k (allowed_at rows k) roots → ⊥) → assignable (allowed_at rows k) (below p) (below k) ≡ false
        none_assignable none = go (either (assignable (allowed_at rows k) (below p) (below k)))
          where
            go : (assignable (allowed_at rows k) (below p) (below k) ≡ true) ⊎ (assignable (allowed_at rows k) (below p) (below k) ≡ false)
                → assignable (allowed_at rows k) (below p) (below k) ≡ false
            go (inl t) = let (roots, y) = assignable_some (allowed_at rows k) p k t in absurd (none roots y)
            go (inr f) = f

    pub done_refused : answer ≡ Refused → AssignDone p k rows assignment after false
    done_refused q = absurd (true≢false (sym (s.means Refused q).invalid ∙ not_refused))
