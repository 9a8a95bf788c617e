-- Replacing a part of the kept edges: it is no heavier than any edges of the list that, with the other kept edges, join the ends
-- of each edge of the part. Both lower bounds rest on this.
-- Assumes nothing.
use Prim.Native.Nat.{ℕ, ◌≤◌}
use mathlib.Core.Path.{◌≡◌}
use mathlib.Core.Bool.{Bool, true, false, not}
use mathlib.Core.List.Memᴰ
use mathlib.Core.List.{List, ◌++◌}
use mathlib.Core.Logic.{◌⊎◌, inl, inr}
use native.Mathlib.Omega.{arith}
use Rattle.lists.specs.Lists.{filter, member}
use Rattle.lists.specs.Member.{◌∈◌}
use Rattle.lists.proofs.Member.{either, in_filter, of_filter, member_in, in_member}
use Rattle.lists.proofs.InOrder.{Once}
use Rattle.lists.proofs.Sums.{sum_append, sum_split, sum_within}
use Rattle.graph.specs.Graph.{Graph, weight_of}
use Rattle.rules.specs.Walk.{total_weight}
use Rattle.rules.specs.Order.{ByWeight}
use Rattle.rules.specs.Labels.{Labels, merge_all}
use Rattle.rules.specs.Forest.{keep}
use Rattle.forest_laws.proofs.Merging.{JoinsEnds, ◌⊑◌, JoinsAll, merged_coarser, merged_joins, merged_finest}
use Rattle.forest_laws.proofs.Keeping.{kept_subset, kept_merges}
use Rattle.forest_laws.proofs.Lightest.{Among, kept_lightest}

-- the part is the kept edges that pass a test; T are edges of the list that join its edges' ends with the kept edges that fail the test
module _ (g : Graph) (P : Labels) (L : List ℕ) (s : ℕ → Bool) (T : List ℕ) (inside : (e : ℕ) → e ∈ T → e ∈ L)
    (joins : JoinsAll g (merge_all g P (filter (λ e. not (s e)) (keep g P L) ++ T)) (filter s (keep g P L))) where
  replacement : List ℕ
  replacement = filter (λ e. not (s e)) (keep g P L) ++ T

  among : Among g P L replacement
  unfolding replacement
  among f m = inl (go (Memᴰ.append_cases (filter (λ e. not (s e)) (keep g P L)) m))
    where
      go : (f ∈ filter (λ e. not (s e)) (keep g P L)) ⊎ (f ∈ T) → f ∈ L
      go (inl n) = kept_subset g P L (of_filter (λ e. not (s e)) (keep g P L) n).0
      go (inr n) = inside f n

  all_joined_lem : JoinsAll g (merge_all g P replacement) (keep g P L)
  unfolding replacement
  all_joined_lem e m = go (either (s e))
    where
      go : (s e ≡ true) ⊎ (s e ≡ false) → JoinsEnds g (merge_all g P replacement) e
      go (inl t) = joins e (in_filter s m t)
      go (inr t) = merged_joins g P replacement e (Memᴰ.append_left T (in_filter (λ x. not (s x)) m (rw t)))

  links : merge_all g P L ⊑ merge_all g P replacement
  links = rw (← kept_merges g P L) (merged_finest g P (merge_all g P replacement) (keep g P L) (merged_coarser g P replacement) all_joined_lem)

  -- then the part weighs no more than T
  pub kept_replaced : ByWeight g L → total_weight g (filter s (keep g P L)) ≤ total_weight g T
  unfolding total_weight replacement
  kept_replaced sorted =
      let all : total_weight g (keep g P L) ≤ total_weight g replacement = kept_lightest g P L replacement sorted among links in
      omega (arith, sum_split (weight_of g) s (keep g P L), sum_append (weight_of g) (filter (λ e. not (s e)) (keep g P L)) T)

-- the same of a part that is listed, each edge once
pub kept_replaced_by : (g : Graph) (P : Labels) (L S T : List ℕ) → ByWeight g L → Once S → ((e : ℕ) → e ∈ S → e ∈ keep g P L) → ((e : ℕ) → e ∈ T → e ∈ L)
    → JoinsAll g (merge_all g P (filter (λ e. not (member e S)) (keep g P L) ++ T)) S → total_weight g S ≤ total_weight g T
unfolding total_weight
kept_replaced_by g P L S T sorted once part inside joins =
    let whole = kept_replaced g P L (λ e. member e S) T inside (λ e m. joins e (member_in e S (of_filter (λ x. member x S) (keep g P L) m).1)) sorted in
    omega (arith, sum_within (weight_of g) once (λ e m. in_filter (λ x. member x S) (part e m) (in_member m)))
