-- Every walk can be shortened to a path, which comes to no vertex twice and so has fewer edges than there are vertices, without more weight: after
-- the last visit of its first vertex it never comes back there, so the rest of it has one vertex fewer to pass.
-- Assumes nothing.
use Prim.Native.Nat.{ℕ, zero, suc, ◌+◌, ◌≤◌, ◌<◌}
use mathlib.Core.Path.{◌≡◌, refl, sym, ◌∙◌, subst}
use mathlib.Core.Bool.{Bool, true, false, true≢false}
use mathlib.Core.List.Memᴰ
use mathlib.Core.List.{List, [], ◌∷◌}
use mathlib.Core.Logic.{◌⊎◌, inl, inr}
use native.Mathlib.Omega.{arith}
use lib.ListN.{length}
use lib.Dec.{ltb}
use borrow.Author.Tests.{ltb-true, ltb-false}
use Rattle.lists.specs.Count.{count}
use Rattle.lists.specs.Lists.{sum_of}
use Rattle.lists.specs.Member.{◌∈◌}
use Rattle.lists.specs.InOrder.{none, next, Once}
use Rattle.lists.proofs.Member.{either}
use Rattle.lists.proofs.Pigeonhole.{but, but_at, of_but, count_but, count_all}
use Rattle.lists.proofs.Fewer.{count_some}
use Rattle.graph.specs.Graph.{Graph, edge_count, weight_of}
use Rattle.graph.specs.Valid.{Valid}
use Rattle.graph.proofs.Decoded.{past_ends}
use Rattle.rules.specs.Walk.{Joins, onward, back, Walk, stay, step, total_weight}
use Rattle.rules.specs.Grow.{far_end}
use Rattle.rules.specs.ClosedWalk.{stops_from}
use Rattle.rules.proofs.FarEnd.{far_end_lem}
use Rattle.distance_laws.proofs.Bounding.{joins_inside}
use Rattle.distance_laws.proofs.Touring.{Tour, here, on, Left, at_end, leaves, tour_starts, last_visit}

-- A walk along edges of the graph through vertices that pass the test, none of them twice, of fewer than that many edges, that weighs no more.
pub record Short (g : Graph) (f : ℕ → Bool) (u v most weight : ℕ) : Type 0 where
  pub path : List ℕ
  pub inside : (e : ℕ) → e ∈ path → e < edge_count g
  pub leads : Walk g path u v
  pub passes : (x : ℕ) → x ∈ stops_from g u path → f x ≡ true
  pub once : Once (stops_from g u path)
  pub few : length path < most
  pub light : total_weight g path ≤ weight

module _ {g : Graph} where
  -- A tour needs fewer edges than there are vertices that pass.
  shorten : (most : ℕ) {f : ℕ → Bool} {path : List ℕ} {u v : ℕ} → count g.vertices f ≤ most → Tour g f path u v → Short g f u v most (total_weight g path)
  unfolding total_weight sum_of stops_from
  shorten zero {f} {u = u} few tour = let (h, t) = tour_starts tour in absurd (omega (arith, count_some g.vertices f u h t))
  shorten (suc most) {f} {path} {u} {v} few tour = let (h, t) = tour_starts tour in go h t (last_visit u tour) (λ p w x. shorten most {f = but u f} {path = p} {u = w} {v = x})
    where
      go : u < g.vertices → f u ≡ true → Tour g (but u f) path u v ⊎ Left g f u v (total_weight g path)
          → ((p : List ℕ) (w x : ℕ) → count g.vertices (but u f) ≤ most → Tour g (but u f) p w x → Short g (but u f) w x most (total_weight g p)) → Short g f u v (suc most) (total_weight g path)
      go h t (inl avoids) ih = absurd (true≢false (sym (tour_starts avoids).1 ∙ but_at f u))
      go h t (inr (at_end q)) ih = record {
        path = [];
        inside = λ e m. absurd (Memᴰ.not-nil m);
        leads = stay q;
        passes = λ x m. rw (Memᴰ.eq_of_singleton m) t;
        once = next (λ x m. absurd (Memᴰ.not-nil m)) none;
        few = omega arith;
        light = omega arith;
      }
      go h t (inr (leaves {e = e} {w = w} {path = rest} l j tour light)) ih =
          let s = ih rest w v (omega (arith, count_but g.vertices f u h t)) tour in
          record {
            path = e ∷ s.path;
            inside = λ d m. ends d s.inside m;
            leads = step j s.leads;
            passes = λ x m. passed s.path x s.passes m;
            once = rw (far_end_lem j) (next (λ x m q. (of_but f u x (s.passes x m)).1 (sym q)) s.once);
            few = omega (arith, s.few);
            light = omega (arith, s.light);
          }
        where
          passed : (p : List ℕ) (x : ℕ) → ((y : ℕ) → y ∈ stops_from g w p → but u f y ≡ true) → x ∈ (u ∷ stops_from g (far_end g e u) p) → f x ≡ true
          passed p x later (Memᴰ.head q) = rw q t
          passed p x later (Memᴰ.tail m) = (of_but f u x (later x (rw (far_end_lem j) at m))).0

          ends : {p : List ℕ} (d : ℕ) → ((k : ℕ) → k ∈ p → k < edge_count g) → d ∈ (e ∷ p) → d < edge_count g
          ends d more (Memᴰ.head q) = omega arith
          ends d more (Memᴰ.tail m) = more d m

  -- Past the last edge a number leads nowhere.
  nowhere : {e u w : ℕ} → edge_count g ≤ e → Joins g e u w → u ≡ w
  nowhere h (onward p q) = p ∙ past_ends g h ∙ sym q
  nowhere h (back p q) = p ∙ sym (past_ends g h) ∙ sym q

  -- Without the numbers past the last edge a walk is a tour, and weighs no more.
  walk_tour : Valid g → {path : List ℕ} {u v : ℕ} → u < g.vertices → Walk g path u v → (p : List ℕ) × Tour g (λ _. true) p u v × (total_weight g p ≤ total_weight g path)
  unfolding total_weight sum_of
  walk_tour valid h (stay q) = ([], here h refl q, omega arith)
  walk_tour valid {u = u} {v = v} h (step {e = e} {path = path} {w = w} j walk) = go (either (ltb e (edge_count g))) (λ l. walk_tour valid l walk)
    where
      back_from : {p : List ℕ} → u ≡ w → Tour g (λ _. true) p w v → Tour g (λ _. true) p u v
      back_from {p} q t = subst (λ x. Tour g (λ _. true) p x v) (sym q) t

      go : (ltb e (edge_count g) ≡ true) ⊎ (ltb e (edge_count g) ≡ false) → (w < g.vertices → (p : List ℕ) × Tour g (λ _. true) p w v × (total_weight g p ≤ total_weight g path))
          → (p : List ℕ) × Tour g (λ _. true) p u v × (total_weight g p ≤ weight_of g e + total_weight g path)
      go (inl t) ih =
          let l : e < edge_count g = ltb-true e (edge_count g) t in
          let (p, tour, light) = ih (joins_inside valid j) in
          (e ∷ p, on h refl l j tour, omega arith)
      go (inr t) ih =
          let q : u ≡ w = nowhere (ltb-false e (edge_count g) t) j in
          let (p, tour, light) = ih (omega arith) in
          (p, back_from q tour, omega arith)

  -- Every walk can be shortened to a path of fewer edges than there are vertices, all of the graph, without more weight.
  pub shortened : Valid g → {path : List ℕ} {u v : ℕ} → u < g.vertices → Walk g path u v → Short g (λ _. true) u v g.vertices (total_weight g path)
  shortened valid h walk =
      let (p, tour, light) = walk_tour valid h walk in
      let s = shorten g.vertices (omega (arith, count_all g.vertices)) tour in
      record { path = s.path; inside = s.inside; leads = s.leads; passes = s.passes; once = s.once; few = s.few; light = omega (arith, s.light) }
