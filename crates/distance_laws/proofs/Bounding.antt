-- No value is above the weight of a walk of so few edges: after as many rounds as a walk has edges, the value where it leads is at most
-- its weight.
-- Assumes nothing.
use Prim.Native.Nat.{ℕ, zero, suc, ◌+◌, ◌-◌, ◌≤◌, ◌<◌}
use mathlib.Core.Path.{◌≡◌, refl, subst}
use mathlib.Core.List.Memᴰ
use mathlib.Core.List.{List}
use native.Mathlib.Omega.{arith}
use lib.ListN.{length}
use borrow.Author.Tests.{eq-eqb}
use Rattle.lists.specs.Count.{below}
use Rattle.lists.specs.Lists.{sum_of}
use Rattle.lists.specs.Member.{◌∈◌}
use Rattle.lists.proofs.Below.{in_below}
use Rattle.graph.specs.Graph.{Graph, edge_count, weight_of}
use Rattle.graph.specs.Valid.{Valid}
use Rattle.graph.proofs.Ranges.{one_end_below, other_end_below}
use Rattle.rules.specs.Walk.{Joins, Walk, stay, step, total_weight}
use Rattle.rules.specs.Distance.{Distance, distances_in}
use Rattle.rules.proofs.Joined.{joins_below}
use Rattle.distance_laws.proofs.Nearer.{AtMost}
use Rattle.distance_laws.proofs.Relaxing.{relaxed_old, relaxed_over}
use Rattle.distance_laws.proofs.Rounds.{value_in, value_first, value_next, value_inside}

-- A bound may be loosened.
pub looser : {x : Distance} {c d : ℕ} → AtMost x c → c ≤ d → AtMost x d
looser h l = record { value = h.value; is = h.is; low = omega (arith, h.low) }

-- An edge of the graph leads to a vertex of the graph.
pub joins_inside : {g : Graph} → Valid g → {e u v : ℕ} → Joins g e u v → v < g.vertices
joins_inside valid {e} j = joins_below (one_end_below valid e) (other_end_below valid e) j

module _ (g : Graph) (r : ℕ) where
  -- A round more makes no value larger.
  pub value_later : (j v : ℕ) {c : ℕ} → AtMost (value_in g r j v) c → AtMost (value_in g r (suc j) v) c
  value_later j v h = rw (value_next g r j v (value_inside g r j v h.is)) (relaxed_old g (distances_in j g r) v (below (edge_count g)) h)

  -- Nor do any rounds more.
  value_after : (i j k v : ℕ) {c : ℕ} → j + i ≡ k → AtMost (value_in g r j v) c → AtMost (value_in g r k v) c
  value_after zero j k v {c} q h =
      let same : j ≡ k = omega arith in
      subst (λ x. AtMost (value_in g r x v) c) same h
  value_after (suc i) j k v q h = value_after i (suc j) k v (omega arith) (value_later j v h)

  -- A round takes a bound over an edge.
  pub value_over : Valid g → (j : ℕ) {e u v c : ℕ} → e < edge_count g → Joins g e u v → AtMost (value_in g r j u) c → AtMost (value_in g r (suc j) v) (c + weight_of g e)
  value_over valid j {e} {u} {v} h join most =
      rw (value_next g r j v (joins_inside valid join)) (relaxed_over g (distances_in j g r) v (in_below (edge_count g) h) join most)

  -- As many more rounds as a walk has edges take a bound along the walk.
  pub value_along : Valid g → {path : List ℕ} {u v c : ℕ} (j k : ℕ) → j + length path ≤ k → Walk g path u v → ((e : ℕ) → e ∈ path → e < edge_count g)
      → AtMost (value_in g r j u) c → AtMost (value_in g r k v) (c + total_weight g path)
  unfolding total_weight sum_of
  value_along valid {v = v} {c = c} j k few (stay q) inside most =
      looser (value_after (k - j) j k v (omega arith) (subst (λ x. AtMost (value_in g r j x) c) q most)) (omega arith)
  value_along valid j k few (step {e = e} join walk) inside most =
      let h : e < edge_count g = inside e (Memᴰ.head refl) in
      looser (value_along valid (suc j) k (omega arith) walk (λ f m. inside f (Memᴰ.tail m)) (value_over valid j h join most)) (omega arith)

  -- Before the first round the value of r is 0.
  pub value_start : r < g.vertices → AtMost (value_in g r 0 r) 0
  value_start h = rw (value_first g r r h, eq-eqb r r refl) (record { value = 0; is = refl; low = omega arith })

  -- After j rounds the value where a walk of at most j edges leads is at most its weight.
  pub value_most : Valid g → r < g.vertices → (j : ℕ) {path : List ℕ} {v : ℕ} → Walk g path r v → ((e : ℕ) → e ∈ path → e < edge_count g) → length path ≤ j
      → AtMost (value_in g r j v) (total_weight g path)
  value_most valid h j walk inside few = looser (value_along valid 0 j (omega arith) walk inside (value_start h)) (omega arith)
