-- One vertex more is marked: fewer are left to be visited.
-- Assumes nothing.
use Prim.Native.Nat.{ℕ, ◌≤◌, ◌<◌}
use mathlib.Core.Path.{◌≡◌, refl, sym, ap, ◌∙◌}
use mathlib.Core.Bool.{true, false, false≢true}
use mathlib.Core.List.{List}
use mathlib.Core.Logic.{dite}
use native.Mathlib.Decide.{ℕ_discrete, dec_lt}
use native.Mathlib.Omega.{arith}
use lib.ListN.{length}
use lib.Seq.{set_out, get_or-set_same, get_or-set_other}
use Rattle.lists.proofs.Fewer.{count_no_more, count_fewer, count_bounded}
use Rattle.split.specs.SplitBelow.{unmarked, unvisited, passing}

module _ (marks : List ℕ) (v : ℕ) where
  -- the others' marks are as they were
  pub marks_kept : (i : ℕ) → (i ≡ v → ⊥) → unmarked (passing v marks) i ≡ unmarked marks i
  unfolding unmarked
  marks_kept i h = rw (get_or-set_other marks v i 1 0 h)

  module _ (h : v < length marks) where
    -- the vertex has a mark now
    pub marked_now : unmarked (passing v marks) v ≡ false
    unfolding unmarked
    marked_now = rw (get_or-set_same marks v 1 0 h)

    -- a vertex without a mark had none
    pub unmarked_before : (i : ℕ) → unmarked (passing v marks) i ≡ true → unmarked marks i ≡ true
    unmarked_before i q =
        dite (ℕ_discrete i v) (λ e. absurd (false≢true (sym marked_now ∙ ap (unmarked (passing v marks)) (sym e) ∙ q))) (λ e. sym (marks_kept i e) ∙ q)

    module _ (n : ℕ) (inside : v < n) where
      -- where the vertex had none, one fewer is left
      pub unvisited_less : unmarked marks v ≡ true → unvisited n (passing v marks) < unvisited n marks
      unfolding unvisited
      unvisited_less q = count_fewer n (unmarked (passing v marks)) (unmarked marks) (λ i l r. unmarked_before i r) v inside marked_now q

      -- not all are left
      pub unvisited_below : unvisited n (passing v marks) < n
      unfolding unvisited
      unvisited_below =
          omega (arith, count_fewer n (unmarked (passing v marks)) (λ i. true) (λ i l r. refl) v inside marked_now refl, count_bounded n (λ i. true))

  -- no more are left than before
  pub unvisited_fewer : (n : ℕ) → unvisited n (passing v marks) ≤ unvisited n marks
  unfolding unvisited
  unvisited_fewer n =
      dite (dec_lt v (length marks))
      (λ h. count_no_more n (unmarked (passing v marks)) (unmarked marks) (λ i l r. unmarked_before h i r))
      (λ h. rw (set_out marks v 1 (omega arith)) (omega arith))

-- at most all are left
pub unvisited_most : (n : ℕ) (marks : List ℕ) → unvisited n marks ≤ n
unfolding unvisited
unvisited_most n marks = count_bounded n (unmarked marks)
