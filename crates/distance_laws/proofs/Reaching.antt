-- Each value is the weight of a walk: the value of a vertex after any number of rounds is the weight of a walk that leads there from r.
-- Assumes nothing.
use Prim.Native.Nat.{ℕ, zero, suc, ◌+◌, ◌<◌}
use mathlib.Core.Path.{◌≡◌, refl, sym, ◌∙◌}
use mathlib.Core.List.Memᴰ
use mathlib.Core.List.{List, [], ◌∷◌, ◌++◌}
use mathlib.Core.Option.{some}
use mathlib.Core.Logic.{◌⊎◌, inl, inr}
use native.Mathlib.Omega.{arith}
use lib.Dec.{eqb}
use borrow.Author.Tests.{eqb-true}
use Rattle.lists.specs.Count.{below}
use Rattle.lists.specs.Lists.{sum_of}
use Rattle.lists.specs.Member.{◌∈◌}
use Rattle.lists.proofs.Below.{of_below}
use Rattle.lists.proofs.Sums.{sum_append}
use Rattle.graph.specs.Graph.{Graph, edge_count, weight_of}
use Rattle.rules.specs.Walk.{Joins, Walk, stay, step, total_weight}
use Rattle.rules.specs.Distance.{distances_in}
use Rattle.rules.proofs.Linked.{walk_on}
use Rattle.distance_laws.proofs.Nearer.{cond_some}
use Rattle.distance_laws.proofs.Relaxing.{Over, relaxed_some}
use Rattle.distance_laws.proofs.Rounds.{value_in, value_first, value_next, value_inside}

-- A walk along edges of the graph leads from r to v, and weighs d.
pub record ReachedAt (g : Graph) (r v d : ℕ) : Type 0 where
  pub path : List ℕ
  pub inside : (e : ℕ) → e ∈ path → e < edge_count g
  pub leads : Walk g path r v
  pub weighs : total_weight g path ≡ d

module _ (g : Graph) (r : ℕ) where
  -- r itself is reached at no weight.
  reached_start : {v d : ℕ} → v ≡ r → 0 ≡ d → ReachedAt g r v d
  unfolding total_weight sum_of
  reached_start p q = record { path = []; inside = λ e m. absurd (Memᴰ.not-nil m); leads = stay (sym p); weighs = q }

  -- An edge more reaches the neighbour.
  pub reached_on : {e u v d k : ℕ} → e < edge_count g → ReachedAt g r u k → Joins g e u v → d ≡ k + weight_of g e → ReachedAt g r v d
  unfolding total_weight sum_of
  reached_on {e} {d = d} h w j q = record {
    path = w.path ++ (e ∷ []);
    inside = λ f m. ends f (Memᴰ.append_cases w.path m);
    leads = walk_on w.leads (step j (stay refl));
    weighs = omega (arith, sum_append (weight_of g) w.path (e ∷ []), w.weighs);
  }
    where
      ends : (f : ℕ) → (f ∈ w.path) ⊎ (f ∈ (e ∷ [])) → f < edge_count g
      ends f (inl m) = w.inside f m
      ends f (inr m) = omega (arith, Memᴰ.eq_of_singleton m)

  -- The value of v after any number of rounds is the weight of a walk from r to v.
  pub value_reached : (j v : ℕ) {d : ℕ} → value_in g r j v ≡ some d → ReachedAt g r v d
  value_reached zero v {d} q =
      let (t, p) = cond_some (eqb v r) (some 0) (sym (value_first g r v (value_inside g r zero v q)) ∙ q) in
      reached_start (eqb-true v r t) (cc)
  value_reached (suc j) v {d} q =
      go (relaxed_some g (distances_in j g r) v (below (edge_count g)) (sym (value_next g r j v (value_inside g r (suc j) v q)) ∙ q)) (λ u k p. value_reached j u p)
    where
      go : (value_in g r j v ≡ some d) ⊎ Over g (distances_in j g r) v (below (edge_count g)) d → ((u k : ℕ) → value_in g r j u ≡ some k → ReachedAt g r u k) → ReachedAt g r v d
      go (inl p) ih = ih v d p
      go (inr o) ih = reached_on (of_below (edge_count g) o.listed) (ih o.neighbour o.before o.known_there) o.joined o.added
