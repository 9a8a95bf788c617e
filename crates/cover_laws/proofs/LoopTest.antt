-- The test for loops (34) tries each edge against the edges before it, as `keep` does: it says yes exactly where all edges are kept. So it says
-- yes exactly where no edge's ends are linked by the other edges.
-- Assumes nothing.
use Prim.Native.Nat.{ℕ}
use mathlib.Core.Path.{◌≡◌, refl, ap}
use mathlib.Core.Bool.{true, not}
use mathlib.Core.List.{List, [], ◌∷◌}
use mathlib.Core.Logic.{◌↔◌}
use borrow.Author.Tests.{eqb-false, ne_eqb, not-true}
use Rattle.lists.specs.Lists.{without}
use Rattle.lists.specs.Member.{◌∈◌}
use Rattle.lists.proofs.Every.{both_true, first_true, second_true}
use Rattle.lists.proofs.InOrder.{Once}
use Rattle.graph.specs.Graph.{Graph, one_end, other_end}
use Rattle.rules.specs.Walk.{Linked}
use Rattle.rules.specs.Labels.{Labels, apart, joined, ends_joined, merge_edge}
use Rattle.rules.specs.Forest.{keep}
use Rattle.rules.specs.CheckCover.{loop_free}
use Rattle.forest_laws.proofs.Loops.{AllKept, all_none, all_next, all_kept_whole, whole_all_kept, kept_whole_is_loopless}

module _ (g : Graph) where
  -- Edges that pass the test are all kept.
  passed_kept : (P : Labels) (es : List ℕ) → loop_free g P es ≡ true → AllKept g P es
  unfolding loop_free ends_joined joined
  passed_kept P [] t = all_none
  passed_kept P (e ∷ es) t =
      let test = ends_joined g P e in
      let rest = loop_free g (merge_edge g P e) es in
      all_next (eqb-false _ _ (not-true test (first_true (not test) rest t))) (passed_kept (merge_edge g P e) es (second_true (not test) rest t))

  -- Edges that are all kept pass the test.
  kept_passes : {P : Labels} {es : List ℕ} → AllKept g P es → loop_free g P es ≡ true
  unfolding loop_free ends_joined joined
  kept_passes all_none = refl
  kept_passes (all_next p k) = both_true (ap not (ne_eqb _ _ p)) (kept_passes k)

  -- The test says yes exactly where `keep` keeps all edges.
  pub loop_free_is_kept : (P : Labels) (es : List ℕ) → (loop_free g P es ≡ true) ↔ (keep g P es ≡ es)
  loop_free_is_kept P es = (λ t. all_kept_whole (passed_kept P es t), λ whole. kept_passes (whole_all_kept P es whole))

  -- No edge's ends are linked by the other edges.
  abbrev pub NoLoop : List ℕ → Type 0
  NoLoop es = (e : ℕ) → e ∈ es → Linked g (without e es) (one_end g e) (other_end g e) → ⊥

  -- Of edges without repeats, the test says yes exactly where none lies on a loop.
  pub loop_free_is_loopless : {es : List ℕ} → Once es → (loop_free g apart es ≡ true) ↔ NoLoop es
  loop_free_is_loopless {es} once =
      let kept = loop_free_is_kept apart es in
      let loopless = kept_whole_is_loopless g once in
      (λ t. loopless.0 (kept.0 t), λ no_loop. kept.1 (loopless.1 no_loop))
