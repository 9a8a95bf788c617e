-- The value of a vertex at each round, and that only vertices of the graph have one.
-- Assumes nothing.
use Prim.Native.Nat.{ℕ, zero, suc, ◌<◌}
use mathlib.Core.Path.{◌≡◌, sym, ◌∙◌}
use mathlib.Core.Bool.{true, false, cond}
use mathlib.Core.Option.{none, some, none-ne-some}
use mathlib.Core.Logic.{◌⊎◌, inl, inr}
use native.Mathlib.Omega.{arith}
use lib.Dec.{eqb, ltb}
use lib.ListN.{length, get_or, get_or-eq_default}
use borrow.Author.Tests.{ltb-true, ltb-false}
use Rattle.lists.specs.Count.{below}
use Rattle.lists.proofs.Member.{either}
use Rattle.lists.proofs.Runs.{get_or_map_below, length_map_below}
use Rattle.graph.specs.Graph.{Graph, edge_count}
use Rattle.rules.specs.Distance.{Distance, relaxed, distances_in}

module _ (g : Graph) (r : ℕ) where
  -- The value of v after so many rounds.
  abbrev pub value_in : ℕ → ℕ → Distance
  value_in j v = get_or (distances_in j g r) v none

  -- Before the first round only r has a value.
  pub value_first : (v : ℕ) → v < g.vertices → value_in zero v ≡ cond (eqb v r) (some 0) none
  unfolding distances_in
  value_first v h = get_or_map_below (λ x. cond (eqb x r) (some 0) none) none g.vertices v h

  -- A round relaxes every edge.
  pub value_next : (j v : ℕ) → v < g.vertices → value_in (suc j) v ≡ relaxed g (distances_in j g r) v (below (edge_count g))
  unfolding distances_in
  value_next j v h = get_or_map_below (λ x. relaxed g (distances_in j g r) x (below (edge_count g))) none g.vertices v h

  -- There is a value for each vertex.
  length_round : (j : ℕ) → length (distances_in j g r) ≡ g.vertices
  unfolding distances_in
  length_round zero = length_map_below (λ x. cond (eqb x r) (some 0) none) g.vertices
  length_round (suc j) = length_map_below (λ x. relaxed g (distances_in j g r) x (below (edge_count g))) g.vertices

  -- Only a vertex of the graph has a value.
  pub value_inside : (j v : ℕ) {d : ℕ} → value_in j v ≡ some d → v < g.vertices
  value_inside j v {d} q = go (either (ltb v g.vertices))
    where
      go : (ltb v g.vertices ≡ true) ⊎ (ltb v g.vertices ≡ false) → v < g.vertices
      go (inl t) = ltb-true v g.vertices t
      go (inr t) = absurd (none-ne-some _ (sym (get_or-eq_default (distances_in j g r) none (omega (arith, length_round j, ltb-false v g.vertices t))) ∙ q))
