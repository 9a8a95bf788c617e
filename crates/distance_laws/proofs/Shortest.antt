-- Where a part is near, a shortest path to it exists, and the test whether the part is near says whether a shortest path is light enough.
-- Assumes nothing.
use Prim.Native.Nat.{ℕ, zero, suc, ◌≤◌, ◌<◌}
use mathlib.Core.Path.{◌≡◌, sym, ◌∙◌}
use mathlib.Core.Bool.{true, false, true≢false}
use mathlib.Core.List.{List}
use mathlib.Core.Logic.{◌⊎◌, inl, inr, ◌↔◌}
use native.Mathlib.Omega.{arith}
use lib.Dec.{leb}
use borrow.Author.Tests.{leb-true, leb-false}
use Rattle.lists.specs.Member.{◌∈◌}
use Rattle.lists.proofs.Member.{either}
use Rattle.graph.specs.Graph.{Graph}
use Rattle.graph.specs.Valid.{Valid}
use Rattle.rules.specs.Walk.{Walk, total_weight}
use Rattle.rules.specs.Cover.{Tree}
use Rattle.rules.specs.Distance.{tree_vertices, reaches_part, IsShortestPath}
use Rattle.distance_laws.proofs.Shortening.{shortened}
use Rattle.distance_laws.proofs.NearPart.{Near, reaches_near}

module _ {g : Graph} (valid : Valid g) {r : ℕ} (start : r < g.vertices) (part : Tree) where
  -- No walk to the part weighs less than that.
  NoLess : ℕ → Type 0
  NoLess d = (v : ℕ) (other : List ℕ) → v ∈ tree_vertices g part → Walk g other r v → d ≤ total_weight g other

  -- A walk to the part within a limit that no walk is below is a shortest path, once it keeps to the edges of the graph.
  least_shortest : (limit : ℕ) → Near g limit r part → NoLess limit → (path : List ℕ) × IsShortestPath g r part path × (total_weight g path ≤ limit)
  unfolding NoLess
  least_shortest limit n least =
      let s = shortened valid start n.leads in
      let light : total_weight g s.path ≤ limit = omega (arith, s.light, n.light) in
      let is : IsShortestPath g r part s.path = record {
        inside = s.inside;
        end = n.end;
        in_part_lem = n.in_part_lem;
        leads = s.leads;
        once = s.once;
        shortest = λ v other m walk. omega (arith, light, least v other m walk);
      } in
      (s.path, is, light)

  -- Where the part is not near, every walk weighs more than the limit.
  not_near : (limit : ℕ) → reaches_part g limit r part ≡ false → NoLess (suc limit)
  unfolding NoLess
  not_near limit t v other m walk = go (either (leb (total_weight g other) limit))
    where
      go : (leb (total_weight g other) limit ≡ true) ⊎ (leb (total_weight g other) limit ≡ false) → suc limit ≤ total_weight g other
      go (inl p) =
          let light = leb-true (total_weight g other) limit p in
          absurd (true≢false (sym ((reaches_near valid start limit part).1 (record { end = v; in_part_lem = m; path = other; leads = walk; light = light })) ∙ t))
      go (inr p) = leb-false (total_weight g other) limit p

  -- Where the part is near, a shortest path to it exists, within the limit.
  pub shortest_path : (limit : ℕ) → reaches_part g limit r part ≡ true → (path : List ℕ) × IsShortestPath g r part path × (total_weight g path ≤ limit)
  unfolding NoLess
  shortest_path zero t = least_shortest zero ((reaches_near valid start zero part).0 t) (λ v other m walk. omega arith)
  shortest_path (suc limit) t = go (either (reaches_part g limit r part)) (λ p. shortest_path limit p)
    where
      Found : ℕ → Type 0
      Found most = (path : List ℕ) × IsShortestPath g r part path × (total_weight g path ≤ most)

      go : (reaches_part g limit r part ≡ true) ⊎ (reaches_part g limit r part ≡ false) → (reaches_part g limit r part ≡ true → Found limit) → Found (suc limit)
      go (inl p) ih = let (path, is, light) = ih p in (path, is, omega arith)
      go (inr p) ih = least_shortest (suc limit) ((reaches_near valid start (suc limit) part).0 t) (not_near limit p)

  -- The test says yes exactly where a given shortest path is within the limit.
  pub reaches_shortest : (limit : ℕ) {path : List ℕ} → IsShortestPath g r part path → (reaches_part g limit r part ≡ true) ↔ (total_weight g path ≤ limit)
  reaches_shortest limit {path} s = (light, reaches)
    where
      light : reaches_part g limit r part ≡ true → total_weight g path ≤ limit
      light t = let n = (reaches_near valid start limit part).0 t in omega (arith, n.light, s.shortest n.end n.path n.in_part_lem n.leads)

      reaches : total_weight g path ≤ limit → reaches_part g limit r part ≡ true
      reaches l = (reaches_near valid start limit part).1 (record { end = s.end; in_part_lem = s.in_part_lem; path = path; leads = s.leads; light = l })
