-- The test whether a part is near says yes exactly where some walk from r to one of its vertices is light enough.
-- Assumes nothing.
use Prim.Native.Nat.{ℕ, ◌≤◌, ◌<◌}
use mathlib.Core.Path.{◌≡◌, refl, ap, ◌∙◌}
use mathlib.Core.Bool.{true, false≢true}
use mathlib.Core.List.{List}
use mathlib.Core.Option.{none, some}
use mathlib.Core.Logic.{◌↔◌}
use native.Mathlib.Omega.{arith}
use borrow.Author.Tests.{leb-true, le-leb}
use Rattle.lists.specs.Lists.{any}
use Rattle.lists.specs.Member.{◌∈◌}
use Rattle.lists.proofs.Member.{any_found, found_any}
use Rattle.graph.specs.Graph.{Graph}
use Rattle.graph.specs.Valid.{Valid}
use Rattle.rules.specs.Walk.{Walk, total_weight}
use Rattle.rules.specs.Cover.{Tree}
use Rattle.rules.specs.Distance.{Distance, is_within, tree_vertices, reaches_part}
use Rattle.distance_laws.proofs.Nearer.{AtMost}
use Rattle.distance_laws.proofs.Least.{distance_to, distance_reached, distance_most}

-- A walk from r to a vertex of the part weighs at most the limit.
pub record Near (g : Graph) (limit r : ℕ) (part : Tree) : Type 0 where
  pub end : ℕ
  pub in_part_lem : end ∈ tree_vertices g part
  pub path : List ℕ
  pub leads : Walk g path r end
  pub light : total_weight g path ≤ limit

-- A distance is within the limit exactly where there is one, of at most that much.
within_most : (limit : ℕ) (x : Distance) → is_within limit x ≡ true → AtMost x limit
unfolding is_within
within_most limit none t = absurd (false≢true t)
within_most limit (some d) t = record { value = d; is = refl; low = leb-true d limit t }

most_within : (limit : ℕ) (x : Distance) → AtMost x limit → is_within limit x ≡ true
unfolding is_within
most_within limit x m = ap (is_within limit) m.is ∙ le-leb m.value limit m.low

module _ {g : Graph} (valid : Valid g) {r : ℕ} (start : r < g.vertices) where
  -- The test says yes exactly where the part is near.
  pub reaches_near : (limit : ℕ) (part : Tree) → (reaches_part g limit r part ≡ true) ↔ Near g limit r part
  unfolding reaches_part
  reaches_near limit part = (near, reaches)
    where
      near : any (λ v. is_within limit (distance_to g r v)) (tree_vertices g part) ≡ true → Near g limit r part
      near t =
          let (v, m, p) = any_found (λ x. is_within limit (distance_to g r x)) (tree_vertices g part) t in
          let k = within_most limit (distance_to g r v) p in
          let w = distance_reached g r v k.is in
          record { end = v; in_part_lem = m; path = w.path; leads = w.leads; light = omega (arith, w.weighs, k.low) }

      reaches : Near g limit r part → any (λ v. is_within limit (distance_to g r v)) (tree_vertices g part) ≡ true
      reaches n =
          let k = distance_most valid start n.leads in
          let most : AtMost (distance_to g r n.end) limit = record { value = k.value; is = k.is; low = omega (arith, k.low, n.light) } in
          found_any (λ x. is_within limit (distance_to g r x)) n.in_part_lem (most_within limit (distance_to g r n.end) most)
