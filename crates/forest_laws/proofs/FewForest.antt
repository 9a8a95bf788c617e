-- The kept edges of a valid graph are fewer than its vertices, whatever the labels at the start: each vertex serves as a start. So are edges
-- without a loop, the forest's edges, and any edges of it.
-- Assumes nothing.
use Prim.Native.Nat.{ℕ, ◌<◌}
use mathlib.Core.Path.{refl}
use mathlib.Core.List.{List}
use native.Mathlib.Omega.{arith}
use lib.ListN.{length}
use Rattle.lists.specs.Count.{below}
use Rattle.lists.specs.Lists.{without}
use Rattle.lists.specs.Member.{◌∈◌}
use Rattle.lists.proofs.Below.{in_below}
use Rattle.lists.proofs.InOrder.{Once}
use Rattle.lists.proofs.Runs.{length_below}
use Rattle.lists.proofs.Without.{without_within}
use Rattle.graph.specs.Graph.{Graph, one_end, other_end}
use Rattle.graph.specs.Valid.{Valid}
use Rattle.graph.proofs.Ranges.{one_end_below, other_end_below}
use Rattle.rules.specs.Walk.{Linked}
use Rattle.rules.specs.Labels.{Labels, apart}
use Rattle.rules.specs.Forest.{keep, forest}
use Rattle.rules.proofs.Linked.{linked_more}
use Rattle.forest_laws.proofs.Loops.{kept_no_loop, kept_whole_is_loopless}
use Rattle.forest_laws.proofs.FewKept.{few_kept}

module _ {g : Graph} (valid : Valid g) where
  -- fewer edges are kept than there are vertices, whatever the labels at the start
  pub kept_few : (P : Labels) (E : List ℕ) → length (keep g P E) < g.vertices
  kept_few P E =
      let n = g.vertices in
      omega (
        arith,
        few_kept g P E (below n) (omega (arith, length_below n, valid.vertices_some))
            (λ e m. ((one_end g e, in_below n (one_end_below valid e), refl), (other_end g e, in_below n (other_end_below valid e), refl))),
        length_below n,
      )

  -- edges without a loop are fewer than the vertices
  pub loopless_few : {E : List ℕ} → Once E → ((e : ℕ) → e ∈ E → Linked g (without e E) (one_end g e) (other_end g e) → ⊥) → length E < g.vertices
  loopless_few {E} once loopless = rw ((kept_whole_is_loopless g once).1 loopless) at (kept_few apart E)

  -- so are edges that are kept, whatever the labels at the start, and any of them
  pub kept_within_few : (P : Labels) (L : List ℕ) {E : List ℕ} → Once E → ((e : ℕ) → e ∈ E → e ∈ keep g P L) → length E < g.vertices
  kept_within_few P L once sub = loopless_few once (λ e m l. kept_no_loop g P L (sub e m) (linked_more (without_within e sub) l))

  -- so it is with the forest at a limit
  pub forest_few : (P : Labels) (limit : ℕ) → length (forest g P limit) < g.vertices
  unfolding forest
  forest_few P limit = kept_few P _

  pub forest_within_few : (P : Labels) (limit : ℕ) {E : List ℕ} → Once E → ((e : ℕ) → e ∈ E → e ∈ forest g P limit) → length E < g.vertices
  unfolding forest
  forest_within_few P limit once sub = kept_within_few P _ once sub
