-- The distances are the least weights of walks: a vertex has the distance d exactly where some walk from r weighs d and none less, and
-- none exactly where no walk leads there.
-- Assumes nothing.
use Prim.Native.Nat.{ℕ, ◌≤◌, ◌<◌}
use mathlib.Core.Path.{◌≡◌, refl, ap, sym, ◌∙◌}
use mathlib.Core.List.{List}
use mathlib.Core.Option.{none, some, none-ne-some}
use mathlib.Core.Logic.{◌↔◌}
use native.Mathlib.Omega.{arith}
use lib.ListN.{get_or}
use Rattle.graph.specs.Graph.{Graph}
use Rattle.graph.specs.Valid.{Valid}
use Rattle.rules.specs.Walk.{Walk, total_weight}
use Rattle.rules.specs.Distance.{Distance, distances}
use Rattle.distance_laws.proofs.Nearer.{AtMost}
use Rattle.distance_laws.proofs.Reaching.{ReachedAt, value_reached}
use Rattle.distance_laws.proofs.Bounding.{looser, value_most}
use Rattle.distance_laws.proofs.Shortening.{shortened}

-- d is the least weight of a walk from r to v.
pub record IsDistance (g : Graph) (r v d : ℕ) : Type 0 where
  pub path : List ℕ
  pub leads : Walk g path r v
  pub weighs : total_weight g path ≡ d
  pub least : (other : List ℕ) → Walk g other r v → d ≤ total_weight g other

-- The distance of v from r.
abbrev pub distance_to : Graph → ℕ → ℕ → Distance
distance_to g r v = get_or (distances g r) v none

-- Each distance is the weight of a walk along edges of the graph.
pub distance_reached : (g : Graph) (r v : ℕ) {d : ℕ} → distance_to g r v ≡ some d → ReachedAt g r v d
unfolding distances
distance_reached g r v q = value_reached g r g.vertices v q

module _ {g : Graph} (valid : Valid g) {r : ℕ} (start : r < g.vertices) where
  -- The distance is at most the weight of every walk.
  pub distance_most : {path : List ℕ} {v : ℕ} → Walk g path r v → AtMost (distance_to g r v) (total_weight g path)
  unfolding distances
  distance_most walk =
      let s = shortened valid start walk in
      looser (value_most g r valid start g.vertices s.leads s.inside (omega (arith, s.few))) s.light

  -- Where there is a distance it is at most the weight of every walk.
  distance_least : {path : List ℕ} {v d : ℕ} → distance_to g r v ≡ some d → Walk g path r v → d ≤ total_weight g path
  distance_least {d = d} q walk =
      let m = distance_most walk in
      let same : m.value ≡ d = cc m.is in
      omega (arith, m.low)

  -- A vertex has the distance d exactly where d is the least weight of a walk there.
  pub distance_some : (v d : ℕ) → (distance_to g r v ≡ some d) ↔ IsDistance g r v d
  distance_some v d = (is, has)
    where
      is : distance_to g r v ≡ some d → IsDistance g r v d
      is q = let w = distance_reached g r v q in record { path = w.path; leads = w.leads; weighs = w.weighs; least = λ other walk. distance_least q walk }

      has : IsDistance g r v d → distance_to g r v ≡ some d
      has i =
          let m = distance_most i.leads in
          let w = distance_reached g r v m.is in
          m.is ∙ ap some (omega (arith, m.low, i.weighs, w.weighs, i.least w.path w.leads))

  -- A vertex has no distance exactly where no walk leads there.
  pub distance_none : (v : ℕ) → (distance_to g r v ≡ none) ↔ ((path : List ℕ) → Walk g path r v → ⊥)
  distance_none v = (λ q path walk. none-ne-some _ (sym q ∙ (distance_most walk).is), λ out. go out (distance_to g r v) refl)
    where
      go : ((path : List ℕ) → Walk g path r v → ⊥) → (x : Distance) → distance_to g r v ≡ x → distance_to g r v ≡ none
      go out none q = q
      go out (some d) q = let w = distance_reached g r v q in absurd (out w.path w.leads)
