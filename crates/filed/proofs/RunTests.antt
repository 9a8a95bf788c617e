-- A run of entries taken edge by edge: what is known of its loops and its labels after each edge.
-- Assumes nothing.
use Prim.Native.Nat.{ℕ, ◌+◌, ◌≤◌, ◌<◌}
use mathlib.Core.Path.{◌≡◌, refl, sym, ap, ◌∙◌}
use mathlib.Core.Bool.{Bool, true, false, ◌&&◌}
use mathlib.Core.List.{List, [], ◌∷◌}
use native.Mathlib.Omega.{arith}
use Rattle.graph.specs.Graph.{Graph}
use Rattle.rules.specs.Labels.{Labels, merge_edge, merge_all}
use Rattle.rules.specs.CoverBytes.{entry_edge}
use Rattle.rules.specs.CheckCover.{loop_free}
use Rattle.forest_laws.proofs.Merging.{merged_append}
use Rattle.cover.specs.Runs.{run_edges}
use Rattle.filed.specs.Parents.{Parents, Spells, EndsJoined}
use Rattle.filed.specs.Trees.{RunTaken}
use Rattle.cover.proofs.TreeRuns.{run_none, run_first, run_last}

-- What is known after the entries before i: the rest decides about loops, from the labels that those before have made.
pub record RunSoFar (g : Graph) (c : List ℕ) (from to i : ℕ) (before after : List ℕ) : Type 0 where
  pub past : from ≤ i
  pub within : i ≤ to
  pub free : (label : Labels) → Spells before label
      → loop_free g label (run_edges c from to) ≡ loop_free g (merge_all g label (run_edges c from i)) (run_edges c i to)
  pub labels : (label : Labels) → Spells before label → Spells after (merge_all g label (run_edges c from i))
  pub parents : Parents after

module _ (g : Graph) (c : List ℕ) (from to : ℕ) where
  pub run_start : from ≤ to → {parents : List ℕ} → Parents parents → RunSoFar g c from to from parents parents
  unfolding merge_all
  run_start h p =
      let none = run_none c from from (omega arith) in
      record {
        past = omega arith;
        within = h;
        free = λ P a. rw none refl;
        labels = λ P a. rw none a;
        parents = p;
      }

  module _ {i : ℕ} {before between after : List ℕ} {r : Bool} (s : RunSoFar g c from to i before between) (more : i < to)
      (j : EndsJoined g (entry_edge c i) between after r) where
    -- The next edge's ends are joined already: the run closes a loop.
    pub run_loop : r ≡ false → RunTaken g c from to before after false
    unfolding loop_free
    run_loop q =
        record {
          parents = j.parents;
          free = λ P a.
              sym (s.free P a
              ∙ ap (loop_free g (merge_all g P (run_edges c from i))) (run_first c i to more)
              ∙ ap (λ t. t && loop_free g (merge_edge g (merge_all g P (run_edges c from i)) (entry_edge c i)) (run_edges c (i + 1) to))
              (sym (j.new (merge_all g P (run_edges c from i)) (s.labels P a)) ∙ q));
          labels = λ P a t. absurd (mathlib.Core.Bool.false≢true t);
        }

    labels_next : (P : Labels) → merge_all g P (run_edges c from (i + 1)) ≡ merge_edge g (merge_all g P (run_edges c from i)) (entry_edge c i)
    unfolding merge_all
    labels_next P =
        ap (merge_all g P) (run_last c from i s.past)
        ∙ merged_append g P (run_edges c from i) (entry_edge c i ∷ [])

    -- They were not: the rest decides.
    pub run_next : r ≡ true → RunSoFar g c from to (i + 1) before after
    unfolding loop_free
    run_next q =
        record {
          past = omega (arith, s.past);
          within = omega arith;
          free = λ P a.
              s.free P a
              ∙ ap (loop_free g (merge_all g P (run_edges c from i))) (run_first c i to more)
              ∙ ap (λ t. t && loop_free g (merge_edge g (merge_all g P (run_edges c from i)) (entry_edge c i)) (run_edges c (i + 1) to))
              (sym (j.new (merge_all g P (run_edges c from i)) (s.labels P a)) ∙ q)
              ∙ ap (λ L. loop_free g L (run_edges c (i + 1) to)) (sym (labels_next P));
          labels = λ P a. rw (labels_next P) (j.labels (merge_all g P (run_edges c from i)) (s.labels P a));
          parents = j.parents;
        }

  -- The whole run is taken.
  pub run_done : {i : ℕ} {before after : List ℕ} → RunSoFar g c from to i before after → to ≤ i → RunTaken g c from to before after true
  unfolding loop_free
  run_done {i} s h =
      let end : i ≡ to = omega (arith, s.within) in
      record {
        parents = s.parents;
        free = λ P a. sym (s.free P a ∙ ap (loop_free g (merge_all g P (run_edges c from i))) (run_none c i to h));
        labels = λ P a t. rw end at (s.labels P a);
      }
